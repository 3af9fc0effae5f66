-- The numbers of the faults.
use Rattle.std.specs.Prelude.{ℕ}
use Rattle.asm_statement.specs.declared.fault.FaultKind.{FaultKind}
use Rattle.asm_statement.specs.declared.fault.FaultKind.TheVariants as kinds

-- the number of a kind of fault
abbrev pub source_fault_number : FaultKind → ℕ
source_fault_number kinds.Token = 1
source_fault_number kinds.Mnemonic = 2
source_fault_number kinds.Operands = 3
source_fault_number kinds.Register = 4
source_fault_number kinds.Range = 5
source_fault_number kinds.Undefined = 6
source_fault_number kinds.Twice = 7
source_fault_number kinds.BranchRange = 8
source_fault_number kinds.Directive = 9
source_fault_number kinds.Align = 10
source_fault_number kinds.TooLarge = 11
