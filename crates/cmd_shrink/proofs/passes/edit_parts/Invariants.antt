use Rattle.std.proofs.Common.{◌≤◌, length}
use Rattle.cmd_shrink.specs.Less.{IsLess}
use Rattle.cmd_shrink.proofs.passes.edit_parts.Given as goal

abbrev pub invariant-parts : goal.invariant-parts
invariant-parts g l = record {
  within : l.to ≤ length l.choices.items;
  less : IsLess l.choices.items l.fn.given.items;
  fails : g.F.Failing.fails l.test l.choices.items;
}

abbrev pub decreases-parts : goal.decreases-parts
decreases-parts g l = l.to
