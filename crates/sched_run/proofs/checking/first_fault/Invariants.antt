use Rattle.std.proofs.Common.{◌-◌, ◌≤◌, length}
use Rattle.sched_run.proofs.ReadLemmas.{ReadSoFar}
use Rattle.sched_run.proofs.checking.first_fault.Given as goal

abbrev pub invariant-items : goal.invariant-items
invariant-items l = record {
  within : l.from ≤ length l.text;
  so_far : ReadSoFar l.harts l.text l.from;
}

abbrev pub decreases-items : goal.decreases-items
decreases-items l = length l.text - l.from
