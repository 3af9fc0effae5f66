use Rattle.asm_assemble.proofs.PlacedOneProgram.{placed_is_assembled}
use Rattle.asm_assemble.proofs.laws.placed_is_assembled.Goals as goal

pub returns : goal.returns
returns c = placed_is_assembled
