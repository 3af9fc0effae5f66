use Rattle.std.proofs.Common.{◌≡◌, drop, map}
use Rattle.hart_step.specs.Hart.{hart_of}
use Rattle.sched_draw.specs.Priorities.{first_running}
use Rattle.sched_draw.proofs.priorities.first_running.Given as goal

-- none so far
abbrev pub invariant-order : goal.invariant-order
invariant-order l =
    first_running (map hart_of l.harts) (drop l.hart-index l.order) ≡ first_running (map hart_of l.harts) l.order
