use Rattle.explore_space.proofs.DifferLemmas.{keys_differ}
use Rattle.explore_space.proofs.explorer.ExplorerSpace.first_key.Goals as goal

pub returns-clause-differ : goal.returns-clause-differ
returns-clause-differ g c = keys_differ _ _ _ _ _
