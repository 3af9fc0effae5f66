use Rattle.std.proofs.Common.{◌-◌, ◌≤◌, length}
use Rattle.cmd_trace.proofs.CountLemmas.{CountedSoFar}
use Rattle.cmd_trace.proofs.counting.count_choices.Given as goal

abbrev pub invariant-items : goal.invariant-items
invariant-items l = record {
  within : l.from ≤ length l.text;
  so_far : CountedSoFar l.harts l.text l.from l.count;
}

abbrev pub decreases-items : goal.decreases-items
decreases-items l = length l.text - l.from
