use Rattle.asm_laws.proofs.ReadsLemmas.{decided}
use Rattle.asm_laws.proofs.reads.texts_are_decided.Goals as goal

pub returns : goal.returns
returns c = decided
