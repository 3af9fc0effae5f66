use Rattle.std.proofs.Common.{◌-◌, length}
use Rattle.cmd_shrink.specs.Switches.{IsRun}
use Rattle.cmd_shrink.proofs.RunLemmas.{Tried}
use Rattle.cmd_shrink.proofs.few_switches.first_fewer.Given as goal

-- the exchanges of the runs so far were tried
abbrev pub invariant-runs : goal.invariant-runs
invariant-runs g l = record {
  run : IsRun l.from l.middle l.choices;
  tried : Tried l.choices (g.F.Failing.fails l.test) l.middle;
}

abbrev pub decreases-runs : goal.decreases-runs
decreases-runs g l = length l.choices - l.middle
