use Rattle.debug_session.proofs.SearchLemmas.{next_is_least}
use Rattle.debug_session.proofs.laws.going_on_finds_the_least.Goals as goal

pub returns : goal.returns
returns g c = λ wish s inside. next_is_least wish s inside
