use Rattle.cmd_shrink.specs.Less.{IsLess}
use Rattle.cmd_shrink.proofs.passes.thin_out.Given as goal

abbrev pub invariant-sizes : goal.invariant-sizes
invariant-sizes g l = record {
  less : IsLess l.choices.items l.fn.given.items;
  fails : g.F.Failing.fails l.test l.choices.items;
}

abbrev pub decreases-sizes : goal.decreases-sizes
decreases-sizes g l = l.size
