use Rattle.explore_laws.proofs.laws.rounds_have_no_bound.Goals as goal
use Rattle.explore_laws.proofs.RoundLemmas.{round_unbounded}

pub returns : goal.returns
returns c = round_unbounded
