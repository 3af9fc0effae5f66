use Rattle.asm_laws.proofs.StopLemmas.{stops_iff}
use Rattle.asm_laws.proofs.tokens.first_token_fault.Goals as goal

pub returns : goal.returns
returns c = stops_iff
