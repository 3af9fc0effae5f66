use Rattle.std.proofs.Common.{◌-◌, ◌≤◌, length, take}
use Rattle.cmd_shrink.proofs.passes.failing_beginning.Given as goal

abbrev pub invariant-halves : goal.invariant-halves
invariant-halves g l = record {
  within : l.most ≤ length l.choices;
  fails : g.F.Failing.fails l.test (take l.most l.choices);
}

abbrev pub decreases-halves : goal.decreases-halves
decreases-halves g l = l.most - l.least
