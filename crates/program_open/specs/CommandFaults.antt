-- The faults of a command, from those of its parts.
use Rattle.image.specs.declared.fault.ElfFault.{ElfFault}
use Rattle.image.specs.declared.fault.ElfFault.TheVariants as elf
use Rattle.machine.specs.declared.inputs.StartFault.{StartFault}
use Rattle.machine.specs.declared.inputs.StartFault.TheVariants as start
use Rattle.sched_text.specs.declared.choice_text.ChoiceFault.{ChoiceFault}
use Rattle.sched_text.specs.declared.choice_text.ChoiceFault.TheVariants as choice
use Rattle.program_open.specs.declared.hex.HexFault.{HexFault}
use Rattle.program_open.specs.declared.hex.HexFault.TheVariants as hex
use Rattle.program_open.specs.declared.command_fault.Input.TheVariants as input
use Rattle.program_open.specs.declared.command_fault.CommandFault.{CommandFault}
use Rattle.program_open.specs.declared.command_fault.CommandFault.TheVariants as fault
use Rattle.byte_io.specs.declared.status.Status.{Status}
use Rattle.byte_io.specs.declared.status.Status.TheVariants as status

-- the exit status of a command with this fault
abbrev pub status_of_fault : CommandFault → Status
status_of_fault fault.Memory = status.NoMemory
status_of_fault (fault.Undecided worlds) = status.Undecided
status_of_fault why = status.Refused

-- a fault of the program's text
abbrev pub fault_of_hex : HexFault → CommandFault
fault_of_hex (hex.BadWord item) = fault.BadWord item
fault_of_hex (hex.TooMany item) = fault.TooMany item
fault_of_hex hex.Memory = fault.Memory

-- a fault of the file
abbrev pub fault_of_elf : ElfFault → CommandFault
fault_of_elf elf.Memory = fault.Memory
fault_of_elf why = fault.Elf why

-- a fault of the inputs with which no machine can start
abbrev pub fault_of_start : StartFault → CommandFault
fault_of_start start.NoHarts = fault.NoHarts
fault_of_start start.TooManyHarts = fault.TooManyHarts

-- a fault of the choice text
abbrev pub fault_of_choices : ChoiceFault → CommandFault
fault_of_choices (choice.BadChoice offset) = fault.BadChoice offset
fault_of_choices (choice.NoHart offset) = fault.NoHart offset
fault_of_choices choice.Memory = fault.Memory

-- a fault of what was read or of its run, not of a device and not out of memory
abbrev pub IsRefusal : CommandFault → Type 0
IsRefusal (fault.Read input) = ⊥
IsRefusal fault.Write = ⊥
IsRefusal fault.Memory = ⊥
IsRefusal why = Unit {0}

-- a fault of the program's bytes, or of the number of inputs
abbrev pub IsOfProgram : CommandFault → Type 0
IsOfProgram (fault.BadWord item) = Unit {0}
IsOfProgram (fault.TooMany item) = Unit {0}
IsOfProgram (fault.Elf why) = Unit {0}
IsOfProgram fault.NoHarts = Unit {0}
IsOfProgram fault.TooManyHarts = Unit {0}
IsOfProgram why = ⊥

-- given a fact for each device (file, choices, history, sink), the fact for the one that a fault
-- names; a fault of threads, their stamps or logs is impossible
abbrev pub IfNames : CommandFault → Type 0 → Type 0 → Type 0 → Type 0 → Type 0
IfNames (fault.Read input.File) file choices history sink = file
IfNames (fault.Read input.Choices) file choices history sink = choices
IfNames (fault.Read input.History) file choices history sink = history
IfNames fault.Write file choices history sink = sink
IfNames fault.ThreadRefused file choices history sink = ⊥
IfNames fault.Stale file choices history sink = ⊥
IfNames fault.StampsExhausted file choices history sink = ⊥
IfNames fault.Unmatched file choices history sink = ⊥
IfNames fault.OutOfOrder file choices history sink = ⊥
IfNames why file choices history sink = Unit {0}

-- out of memory, or the sink, whose number of failures has risen
abbrev pub IfHalts : CommandFault → Type 0 → Type 0
IfHalts fault.Memory risen = Unit {0}
IfHalts fault.Write risen = risen
IfHalts why risen = ⊥
