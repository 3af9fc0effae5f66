use Rattle.explore_laws.proofs.laws.taken_numbers_are_exact.Goals as goal
use Rattle.explore_laws.proofs.PathLemmas.{taken_exact}

pub returns : goal.returns
returns c = taken_exact
