use Rattle.explore_laws.proofs.laws.paths_are_taken.Goals as goal
use Rattle.explore_laws.proofs.RoundLemmas.{path_taken}

pub returns : goal.returns
returns c = path_taken
