use Rattle.asm_laws.proofs.FaultsLemmas.{first_fault}
use Rattle.asm_laws.proofs.faults.first_phase_decides.Goals as goal

pub returns : goal.returns
returns c = first_fault
