-- What a fault says of the devices.
use Rattle.program_open.specs.CommandFaults.{fault_of_choices, IfHalts, IfNames, IsOfProgram, IsRefusal}
use Rattle.sched_text.specs.declared.choice_text.ChoiceFault.{ChoiceFault}
use Rattle.sched_text.specs.declared.choice_text.ChoiceFault.TheVariants as choice
use Rattle.program_open.specs.declared.command_fault.Input.TheVariants as input
use Rattle.program_open.specs.declared.command_fault.CommandFault.{CommandFault}
use Rattle.program_open.specs.declared.command_fault.CommandFault.TheVariants as fault

-- a fact of each device follows, for the one that a fault names
pub names_so : (why : CommandFault) {a b c d e f g h : Type 0}
    → (a → e) → (b → f) → (c → g) → (d → h) → IfNames why a b c d → IfNames why e f g h
names_so (fault.Read input.File) file choices history sink known = file known
names_so (fault.Read input.Choices) file choices history sink known = choices known
names_so (fault.Read input.History) file choices history sink known = history known
names_so fault.Write file choices history sink known = sink known
names_so why file choices history sink known = known

-- a fault of the program is one of what was read
pub of_program : (why : CommandFault) → IsOfProgram why → IsRefusal why
of_program (fault.BadWord item) is = tt
of_program (fault.TooMany item) is = tt
of_program (fault.Elf why) is = tt
of_program fault.NoHarts is = tt
of_program fault.TooManyHarts is = tt
of_program why is = absurd is

-- a fault of the choices, or of the sink, is none of the program
pub choices_alone : (why : ChoiceFault) → IsOfProgram (fault_of_choices why) → ⊥
choices_alone (choice.BadChoice offset) is = is
choices_alone (choice.NoHart offset) is = is
choices_alone choice.Memory is = is

pub halts_alone : (why : CommandFault) (risen : Type 0) → IfHalts why risen → IsOfProgram why → ⊥
halts_alone fault.Memory risen halts is = is
halts_alone fault.Write risen halts is = is
halts_alone why risen halts is = halts
