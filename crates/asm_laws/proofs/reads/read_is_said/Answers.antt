use Rattle.asm_laws.proofs.ReadsLemmas.{ok_iff}
use Rattle.asm_laws.proofs.reads.read_is_said.Goals as goal

pub returns : goal.returns
returns c = ok_iff
