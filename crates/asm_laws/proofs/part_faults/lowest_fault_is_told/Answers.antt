use Rattle.asm_laws.proofs.PartFaultsLemmas.{part_iff, broken_iff}
use Rattle.asm_laws.proofs.part_faults.lowest_fault_is_told.Goals as goal

pub returns-clause-part : goal.returns-clause-part
returns-clause-part c = part_iff

pub returns-clause-token : goal.returns-clause-token
returns-clause-token c = broken_iff
