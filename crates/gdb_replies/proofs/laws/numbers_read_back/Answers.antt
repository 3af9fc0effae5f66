use Rattle.gdb_replies.proofs.ReadingLemmas.{number_back}
use Rattle.gdb_replies.proofs.laws.numbers_read_back.Goals as goal

pub returns : goal.returns
returns c = number_back
