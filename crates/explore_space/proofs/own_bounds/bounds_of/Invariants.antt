use Rattle.std.proofs.Common.{◌≡◌, length}
use Rattle.machine.specs.Start.{started}
use Rattle.explore_space.proofs.OwnBoundLemmas.{AreTold}
use Rattle.explore_space.proofs.own_bounds.bounds_of.Given as goal

-- the harts before this one have their bounds
abbrev pub invariant-harts : goal.invariant-harts
invariant-harts g l = record {
  count : length l.bounds.items ≡ l.hart;
  told : AreTold l.meant (started l.image l.inputs) l.bounds.items;
}
