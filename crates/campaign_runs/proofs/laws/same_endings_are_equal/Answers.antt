use Rattle.campaign_runs.proofs.EndingLemmas.{endings_equal, same_from_equal}
use Rattle.campaign_runs.proofs.laws.same_endings_are_equal.Goals as goal

pub returns : goal.returns
returns c = λ a b. (endings_equal a b, same_from_equal a b)
