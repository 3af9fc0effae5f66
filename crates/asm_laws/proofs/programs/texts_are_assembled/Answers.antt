use Rattle.asm_laws.proofs.ProgramsLemmas.{program_iff, fault_iff}
use Rattle.asm_laws.proofs.programs.texts_are_assembled.Goals as goal

pub returns-clause-program : goal.returns-clause-program
returns-clause-program c = program_iff

pub returns-clause-fault : goal.returns-clause-fault
returns-clause-fault c = fault_iff
