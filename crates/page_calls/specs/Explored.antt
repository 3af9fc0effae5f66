-- What a reply and the output behind it tell of every schedule.
use Rattle.std.specs.Prelude.{◌≡◌, ℕ, List, length}
use Rattle.std.specs.declared.result.Result.{Result}
use Rattle.std.specs.declared.result.Result.TheVariants.{Ok, Err}
use Rattle.byte_io.specs.declared.status.Status.{Status}
use Rattle.cmd_explore.specs.Explore.{ExploresOpened, RefusesOpened}
use Rattle.cmd_explore.specs.declared.finding.Explored.{Explored}
use Rattle.cmd_form.specs.declared.form.Form.TheVariants.{Text}
use Rattle.explore_space.specs.declared.question.Question.{Question}
use Rattle.page_calls.specs.Shown.{TellsOne}
use Rattle.page_calls.specs.declared.reply.Reply.{Reply}
use Rattle.program_open.specs.CommandFaults.{IsRefusal}
use Rattle.program_open.specs.Opening.{program_opening}
use Rattle.program_open.specs.declared.command_fault.CommandFault.{CommandFault}
use Rattle.program_open.specs.declared.program.ProgramForm.TheVariants as form

-- what is found is so of every schedule of a program
abbrev pub FoundEvery : {Z : Type 0} → Question → List ℕ → List ℕ → Explored Z → Type 0
FoundEvery question inputs program found =
    ExploresOpened Text question inputs (program_opening form.Elf (length inputs) program) found

-- nothing is found, for this fault
abbrev pub RefusesEvery : Question → List ℕ → List ℕ → CommandFault → Type 0
RefusesEvery question inputs program why =
    RefusesOpened question inputs (program_opening form.Elf (length inputs) program) why

-- the engine's answer for a program that was read
abbrev pub FindsEvery : {Z : Type 0} → Question → List ℕ → List ℕ
    → Result (Explored Z) CommandFault → Type 0
FindsEvery question inputs program (Ok found) = FoundEvery question inputs program found
FindsEvery question inputs program (Err why) =
    IsRefusal why → RefusesEvery question inputs program why

-- a text and a status are those of what is found of every schedule of a program
pub record IsFoundEvery (Z : Type 0) (question : Question) (inputs program text : List ℕ) (status : Status) : Type 0 where
  pub found : Explored Z
  pub is : FoundEvery question inputs program found
  pub text_is : found.text.items ≡ text
  pub status_is : found.status ≡ status

-- a reply tells what is found of every schedule of a program
abbrev pub TellsExplored : (Z : Type 0) → Question → List ℕ → List ℕ → List ℕ → Reply → Type 0
TellsExplored Z question inputs program =
    TellsOne (IsFoundEvery Z question inputs program) (RefusesEvery question inputs program)
