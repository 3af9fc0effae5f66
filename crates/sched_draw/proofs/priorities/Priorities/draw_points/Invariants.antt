use Rattle.std.proofs.Common.{◌≡◌}
use Rattle.sched_draw.specs.Drawn.{drawing}
use Rattle.sched_draw.specs.Priorities.{with_points}
use Rattle.sched_draw.proofs.priorities.Priorities.draw_points.Given as goal

-- the points so far are drawn
abbrev pub invariant-points : goal.invariant-points
invariant-points g l = drawing l.self ≡ with_points l.places l.counter (drawing l.fn.self)
