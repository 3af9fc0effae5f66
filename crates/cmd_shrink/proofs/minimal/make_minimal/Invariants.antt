use Rattle.cmd_shrink.specs.Less.{IsLessOfEach, weight}
use Rattle.cmd_shrink.specs.Switches.{HasFewSwitches}
use Rattle.cmd_shrink.proofs.minimal.make_minimal.Given as goal

abbrev pub invariant-removals : goal.invariant-removals
invariant-removals g l = record {
  less : IsLessOfEach l.choices.items l.fn.given.items;
  fails : g.F.Failing.fails l.test l.choices.items;
  few : HasFewSwitches (g.F.Failing.fails l.test) l.choices.items;
}

-- each removal takes a choice or a mark away
abbrev pub decreases-removals : goal.decreases-removals
decreases-removals g l = weight l.choices.items
