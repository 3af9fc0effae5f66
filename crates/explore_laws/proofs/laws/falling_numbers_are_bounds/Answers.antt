use Rattle.explore_laws.proofs.laws.falling_numbers_are_bounds.Goals as goal
use Rattle.explore_laws.proofs.BoundLemmas.{numbers_bound_behind}

pub returns : goal.returns
returns c = numbers_bound_behind
