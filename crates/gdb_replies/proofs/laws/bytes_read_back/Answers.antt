use Rattle.gdb_replies.proofs.ReadingLemmas.{pairs_read}
use Rattle.gdb_replies.proofs.laws.bytes_read_back.Goals as goal

pub returns : goal.returns
returns c = pairs_read
