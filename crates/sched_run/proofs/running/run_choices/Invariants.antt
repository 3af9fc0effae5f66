use Rattle.std.proofs.Common.{◌≡◌, ◌-◌, ◌≤◌, length}
use Rattle.machine.specs.State.{state}
use Rattle.sched_run.specs.Chosen.{harts_of}
use Rattle.sched_run.specs.Left.{left_of}
use Rattle.sched_run.proofs.RunLemmas.{SoFar}
use Rattle.sched_run.proofs.running.run_choices.Given as goal

abbrev pub invariant-runs : goal.invariant-runs
invariant-runs g l = record {
  within : l.reading.from ≤ length l.text;
  harts : length (state l.machine).harts ≡ length (state l.fn.machine).harts;
  so_far : SoFar l.harts l.text (left_of l.harts l.text l.reading) (state l.fn.machine) (state l.machine) (harts_of l.chosen);
}

abbrev pub decreases-runs : goal.decreases-runs
decreases-runs g l = length l.text - l.reading.from
