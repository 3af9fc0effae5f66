use Rattle.std.proofs.Common.{◌+◌, refl}
use Rattle.sched_draw.specs.Drawn.{drawing}
use Rattle.sched_draw.proofs.PriorityLemmas.{no_point, points-more}
use Rattle.sched_draw.proofs.priorities.Priorities.draw_points.Goals as goal

pub points-init : goal.points-init
points-init g c = no_point c.args.places (drawing c.args.self.now)

pub points-preserved : goal.points-preserved
points-preserved g c =
    points-more c.args.places c.points.counter (c.points.counter + 1) (drawing c.args.self.now) (drawing c.points.self)
    (drawing c.draw_point.new.self) refl c.points.invariant c.in_ok-draw_point.ensures
