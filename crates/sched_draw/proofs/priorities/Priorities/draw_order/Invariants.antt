use Rattle.std.proofs.Common.{◌≡◌}
use Rattle.sched_draw.specs.Drawn.{drawing}
use Rattle.sched_draw.specs.Priorities.{with_harts}
use Rattle.sched_draw.proofs.priorities.Priorities.draw_order.Given as goal

-- the harts so far have their places
abbrev pub invariant-harts : goal.invariant-harts
invariant-harts g l = drawing l.self ≡ with_harts l.hart (drawing l.fn.self)
