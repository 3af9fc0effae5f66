use Rattle.std.proofs.Common.{◌≡◌}
use Rattle.explore_space.specs.Every.{meant_choices}
use Rattle.explore_space.proofs.meant.meant_choices.Given as goal

abbrev pub invariant-harts : goal.invariant-harts
invariant-harts g l = l.choices.items ≡ meant_choices l.refusals l.hart
