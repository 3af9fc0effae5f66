use Rattle.std.proofs.Common.{Some}
use Rattle.mem_store.specs.Image.{segments_memory}
use Rattle.hart_step.specs.Hart.{hart_of}
use Rattle.explore_space.proofs.SettlingLemmas.{IsOnTheWay}
use Rattle.explore_space.proofs.settling.steps_outside.Given as goal
use Rattle.explore_space.specs.Resting.{at_once}

-- so many steps are taken
abbrev pub invariant-steps : goal.invariant-steps
invariant-steps g l =
    IsOnTheWay (Some l.section) (segments_memory l.code) at_once l.done (hart_of l.fn.hart) (hart_of l.hart)
