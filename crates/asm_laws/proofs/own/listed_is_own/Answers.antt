use Rattle.asm_laws.proofs.OwnLemmas.{listed}
use Rattle.asm_laws.proofs.own.listed_is_own.Goals as goal

pub returns : goal.returns
returns c = listed
