use Rattle.asm_assemble.proofs.PlacedOneProgram.{faulty_is_unplaced}
use Rattle.asm_assemble.proofs.laws.faulty_is_unplaced.Goals as goal

pub returns : goal.returns
returns c = faulty_is_unplaced
