use Rattle.trace_text.proofs.ReadBackLemmas.{string_alone}
use Rattle.trace_text.proofs.laws.strings_read_back.Goals as goal

pub returns : goal.returns
returns c = string_alone
