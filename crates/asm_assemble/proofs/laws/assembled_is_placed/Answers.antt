use Rattle.asm_assemble.proofs.PlacedWhole.{assembled_is_placed}
use Rattle.asm_assemble.proofs.laws.assembled_is_placed.Goals as goal

pub returns : goal.returns
returns c = assembled_is_placed
