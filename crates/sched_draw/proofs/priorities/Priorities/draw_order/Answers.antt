use Rattle.std.proofs.Common.{◌+◌, refl}
use Rattle.sched_draw.specs.Drawn.{drawing}
use Rattle.sched_draw.proofs.PriorityLemmas.{no_hart, harts-more}
use Rattle.sched_draw.proofs.priorities.Priorities.draw_order.Goals as goal

pub harts-init : goal.harts-init
harts-init g c = no_hart (drawing c.args.self.now)

pub harts-preserved : goal.harts-preserved
harts-preserved g c =
    harts-more c.harts.hart (c.harts.hart + 1) (drawing c.args.self.now) (drawing c.harts.self) (drawing c.draw_place.new.self)
    refl c.harts.invariant c.in_ok-draw_place.ensures
