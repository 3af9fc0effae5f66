-- The checks of a file: their numbers, and which of two comes first.
use Rattle.std.specs.Prelude.{ℕ, Bool, true, false, Option, Some, None}
use Rattle.image.specs.declared.fault.ElfFault.{ElfFault}
use Rattle.image.specs.declared.fault.ElfFault.TheVariants as faults

-- the number of a check; out of memory has none
abbrev pub fault_number : ElfFault → Option ℕ
fault_number faults.Short = Some 1
fault_number faults.Magic = Some 2
fault_number faults.Class = Some 3
fault_number faults.Encoding = Some 4
fault_number faults.Version = Some 5
fault_number faults.FileType = Some 6
fault_number faults.Machine = Some 7
fault_number faults.Compressed = Some 8
fault_number faults.HeaderSize = Some 9
fault_number faults.OutsideFile = Some 10
fault_number faults.FileOverMem = Some 11
fault_number faults.PastEnd = Some 12
fault_number faults.Overlap = Some 13
fault_number faults.TooLarge = Some 14
fault_number faults.Dynamic = Some 15
fault_number faults.EntryAlign = Some 16
fault_number faults.Memory = None

-- the fault if the test holds, else the result of the later checks
abbrev pub fault_if : Bool → ElfFault → Option ElfFault → Option ElfFault
fault_if true fault later = Some fault
fault_if false fault later = later

-- the earlier fault, else the later one
abbrev pub first_fault : Option ElfFault → Option ElfFault → Option ElfFault
first_fault (Some fault) later = Some fault
first_fault None later = later
