use Rattle.asm_assemble.proofs.PlacedOneProgram.{one_program}
use Rattle.asm_assemble.proofs.laws.one_program.Goals as goal

pub returns : goal.returns
returns c = one_program
