-- The faults of assembling, and their statuses.
use Rattle.asm_statement.specs.declared.fault.AsmFault.{AsmFault}
use Rattle.asm_statement.specs.declared.fault.AsmFault.TheVariants as assembler
use Rattle.byte_io.specs.declared.status.Status.{Status}
use Rattle.byte_io.specs.declared.status.Status.TheVariants as status
use Rattle.cmd_asm.specs.declared.fault.AssemblyFault.{AssemblyFault}
use Rattle.cmd_asm.specs.declared.fault.AssemblyFault.TheVariants as faults

-- the exit status of the command
abbrev pub assembly_status : AssemblyFault → Status
assembly_status (faults.Wrong why) = status.Refused
assembly_status (faults.Read place) = status.Refused
assembly_status (faults.NotText place) = status.Refused
assembly_status faults.Write = status.Refused
assembly_status faults.Memory = status.NoMemory

-- a fault of the assembler
abbrev pub fault_of_assembler : AsmFault → AssemblyFault
fault_of_assembler (assembler.At why) = faults.Wrong why
fault_of_assembler assembler.Memory = faults.Memory
