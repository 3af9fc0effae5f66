use Rattle.history.proofs.Agreement.{decided}
use Rattle.history.proofs.laws.history_texts_are_decided.Goals as goal

pub returns : goal.returns
returns c = decided
