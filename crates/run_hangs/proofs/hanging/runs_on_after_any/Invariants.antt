use Rattle.std.proofs.Common.{◌≡◌, true}
use Rattle.machine.specs.State.{state}
use Rattle.mem_store.specs.Memory.{all_below}
use Rattle.run_hangs.specs.Hanging.{alone_first, runs_on}
use Rattle.run_hangs.proofs.hanging.runs_on_after_any.Given as goal

-- whichever of the harts so far goes on first, some hart runs
abbrev pub invariant-harts : goal.invariant-harts
invariant-harts g l =
    all_below l.hart (λ hart. runs_on (state l.machine) (alone_first l.harts l.steps hart)) ≡ true
