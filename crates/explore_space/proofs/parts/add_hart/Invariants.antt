use Rattle.std.proofs.Common.{◌≢◌}
use Rattle.hart_step.specs.Hart.{hart_of}
use Rattle.hart_step.specs.declared.hart.Hart.{Hart}
use Rattle.explore_space.proofs.SameLemmas.{AllSoFar}
use Rattle.explore_space.proofs.parts.add_hart.Given as goal

-- no hart so far is the same
abbrev pub invariant-harts : goal.invariant-harts
invariant-harts g l = AllSoFar (λ (known : Hart). hart_of known ≢ hart_of l.hart) l.harts.items l.id
