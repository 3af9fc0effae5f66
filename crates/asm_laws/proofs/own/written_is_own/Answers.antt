use Rattle.asm_laws.proofs.OwnLemmas.{written}
use Rattle.asm_laws.proofs.own.written_is_own.Goals as goal

pub returns : goal.returns
returns c = written
