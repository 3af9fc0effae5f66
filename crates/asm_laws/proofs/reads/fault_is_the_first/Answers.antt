use Rattle.asm_laws.proofs.ReadsLemmas.{err_iff}
use Rattle.asm_laws.proofs.reads.fault_is_the_first.Goals as goal

pub returns : goal.returns
returns c = err_iff
