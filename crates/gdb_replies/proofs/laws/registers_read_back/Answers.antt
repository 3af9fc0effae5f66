use Rattle.gdb_replies.proofs.ReadingLemmas.{registers_back}
use Rattle.gdb_replies.proofs.laws.registers_read_back.Goals as goal

pub returns : goal.returns
returns c = registers_back
