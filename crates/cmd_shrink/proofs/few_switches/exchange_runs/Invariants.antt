use Rattle.std.proofs.Common.{◌≡◌}
use Rattle.cmd_shrink.specs.Less.{IsLessOfEach, weight}
use Rattle.cmd_shrink.specs.Switches.{switches}
use Rattle.cmd_shrink.proofs.few_switches.exchange_runs.Given as goal

abbrev pub invariant-exchanges : goal.invariant-exchanges
invariant-exchanges g l = record {
  less : IsLessOfEach l.choices.items l.fn.given.items;
  fails : g.F.Failing.fails l.test l.choices.items;
  weighs : weight l.choices.items ≡ weight l.fn.given.items;
}

-- each exchange takes a switch away
abbrev pub decreases-exchanges : goal.decreases-exchanges
decreases-exchanges g l = switches l.choices.items
