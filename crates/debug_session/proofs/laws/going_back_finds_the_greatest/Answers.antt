use Rattle.debug_session.proofs.SearchLemmas.{earlier_is_greatest}
use Rattle.debug_session.proofs.laws.going_back_finds_the_greatest.Goals as goal

pub returns : goal.returns
returns g c = λ wish s. earlier_is_greatest wish s
