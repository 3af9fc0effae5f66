use Rattle.trace_text.proofs.ReadBackLemmas.{number_alone}
use Rattle.trace_text.proofs.laws.numbers_read_back.Goals as goal

pub returns : goal.returns
returns c = number_alone
