use Rattle.sched_text.proofs.Agreement.{decided}
use Rattle.sched_text.proofs.laws.choice_texts_are_decided.Goals as goal

pub returns : goal.returns
returns c = decided
