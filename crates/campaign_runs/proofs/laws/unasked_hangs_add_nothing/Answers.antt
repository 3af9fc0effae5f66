use Rattle.campaign_runs.proofs.RunLemmas.{ending-unasked}
use Rattle.campaign_runs.proofs.laws.unasked_hangs_add_nothing.Goals as goal

pub returns : goal.returns
returns c = λ campaign world inputs choices unasked. ending-unasked campaign world inputs choices unasked
