use Rattle.asm_lex.proofs.Unique.{one_list}
use Rattle.asm_lex.proofs.laws.one_reading.Goals as goal

pub returns : goal.returns
returns c = one_list
