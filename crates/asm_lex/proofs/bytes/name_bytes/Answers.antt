use Rattle.std.proofs.Common.{refl}
use Rattle.asm_lex.specs.Bytes.{name_bytes}
use Rattle.asm_lex.proofs.bytes.name_bytes.Goals as goal

pub returns : goal.returns
unfolding name_bytes
returns c = refl
