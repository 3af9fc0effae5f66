-- An opened run: a program's image and the choices of a text, or the first fault.
use Rattle.std.specs.Prelude.{ℕ, ◌==◌, nat_lt, List, if◌then◌else◌}
use Rattle.std.specs.declared.result.Result.{Result}
use Rattle.std.specs.declared.result.Result.TheVariants.{Ok, Err}
use Rattle.hart_reservations.specs.Limit.{most_harts}
use Rattle.image.specs.Image.{ImageValue}
use Rattle.machine.specs.declared.choice.Choice.{Choice}
use Rattle.sched_text.specs.Reading.{choices_read}
use Rattle.sched_text.specs.declared.choice_text.ChoiceFault.{ChoiceFault}
use Rattle.program_open.specs.Program.{program_of}
use Rattle.program_open.specs.CommandFaults.{fault_of_choices}
use Rattle.program_open.specs.declared.program.ProgramForm.{ProgramForm}
use Rattle.program_open.specs.declared.command_fault.CommandFault.{CommandFault}
use Rattle.program_open.specs.declared.command_fault.CommandFault.TheVariants as fault

-- an image with its choices, or the fault
abbrev pub Opened : Type 0
Opened = Result (ImageValue × List Choice) CommandFault

-- an image with the choices that are read
abbrev pub with_choices : ImageValue → Result (List Choice) ChoiceFault → Opened
with_choices image (Ok choices) = Ok (image, choices)
with_choices image (Err why) = Err (fault_of_choices why)

-- after the program is read, the number of inputs is checked, and only then the rest decides
abbrev pub after_program : {T : Type 0} → ℕ → (ImageValue → Result T CommandFault)
    → Result ImageValue CommandFault → Result T CommandFault
after_program harts next (Ok image) =
    if harts == 0 then Err fault.NoHarts
    else (if nat_lt most_harts harts then Err fault.TooManyHarts else next image)
after_program harts next (Err why) = Err why

-- the image of a program for this number of inputs, or the fault
unfoldable pub program_opening : ProgramForm → ℕ → List ℕ → Result ImageValue CommandFault
program_opening form harts program = after_program harts (λ image. Ok image) (program_of form program)

-- a run of a program and a choice text with this number of inputs, opened
unfoldable pub opening : ProgramForm → ℕ → List ℕ → List ℕ → Opened
opening form harts program text = after_program harts
    (λ image. with_choices image (choices_read harts text)) (program_of form program)
