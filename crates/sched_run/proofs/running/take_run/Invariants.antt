use Rattle.std.proofs.Common.{◌≡◌, length}
use Rattle.std.specs.Prelude.{replicate}
use Rattle.machine.specs.State.{state}
use Rattle.machine.specs.World.{run}
use Rattle.sched_text.specs.Runs.{equal_choices}
use Rattle.sched_run.proofs.running.take_run.Given as goal

-- the choices that are left lead to where all lead
abbrev pub invariant-steps : goal.invariant-steps
invariant-steps g l = record {
  harts : length (state l.machine).harts ≡ length (state l.fn.machine).harts;
  left : run (state l.machine) (replicate l.left l.equal.choice) ≡ run (state l.fn.machine) (equal_choices l.equal);
}

abbrev pub decreases-steps : goal.decreases-steps
decreases-steps g l = l.left
