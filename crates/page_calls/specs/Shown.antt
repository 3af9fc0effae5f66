-- What a reply and the output behind it tell where a command may print one of several texts.
use Rattle.std.specs.Prelude.{◌≡◌, ℕ, ◌<◌, ◌≤◌, ◌⊎◌, List, [], length, take, Some}
use Rattle.std.specs.declared.result.Result.TheVariants.{Err}
use Rattle.byte_io.specs.declared.status.Status.{Status}
use Rattle.byte_io.specs.declared.status.Status.TheVariants.{Done}
use Rattle.cmd_run.specs.File.{ShowsFile}
use Rattle.cmd_run.specs.declared.file.FileView.{FileView}
use Rattle.cmd_shrink.specs.Shrink.{Shrinks, refusal}
use Rattle.outcome.specs.declared.expect.Expect.{Expect}
use Rattle.page_calls.specs.declared.reply.Reply.{Reply}
use Rattle.page_calls.specs.declared.reply.Reply.TheVariants.{Answered, Refused, NoRoom, NoMemory}
use Rattle.program_open.specs.CommandFaults.{status_of_fault}
use Rattle.program_open.specs.Opening.{opening}
use Rattle.program_open.specs.Program.{program_of}
use Rattle.program_open.specs.declared.command_fault.CommandFault.{CommandFault}
use Rattle.program_open.specs.declared.program.ProgramForm.TheVariants as form

-- a text that the command may print, with some status, is longer than the output
pub record IsLonger (Prints : List ℕ → Status → Type 0) (out : List ℕ) : Type 0 where
  pub text : List ℕ
  pub status : Status
  pub prints : Prints text status
  pub longer : length out < length text

-- the command gives no answer, for a fault with this status
pub record IsRefusedFor (Refuses : CommandFault → Type 0) (status : Status) : Type 0 where
  pub why : CommandFault
  pub refuses : Refuses why
  pub status_is : status_of_fault why ≡ status

-- a reply tells what a command may print, and the status with that text: such a text stands in front
-- of the output, or is longer than it; or the command is refused
abbrev pub TellsOne : (List ℕ → Status → Type 0) → (CommandFault → Type 0) → List ℕ → Reply → Type 0
TellsOne Prints Refuses out (Answered told) =
    (told.length ≤ length out) × Prints (take told.length out) told.status
TellsOne Prints Refuses out (Refused told) =
    (told.length ≤ length out) × IsRefusedFor Refuses told.status
TellsOne Prints Refuses out NoRoom =
    IsLonger Prints out ⊎ ((status : Status) × IsRefusedFor Refuses status)
TellsOne Prints Refuses out NoMemory = Unit {0}

-- a command that ends well prints this text
abbrev pub PrintsWell : (List ℕ → Type 0) → List ℕ → Status → Type 0
PrintsWell Prints text status = Prints text × (status ≡ Done)

-- a file doesn't load
abbrev pub RefusesFile : List ℕ → CommandFault → Type 0
RefusesFile bytes why = program_of form.Elf bytes ≡ Err why

-- a reply tells what is shown of a file
abbrev pub TellsFile : FileView → List ℕ → List ℕ → Reply → Type 0
TellsFile view bytes = TellsOne (PrintsWell (ShowsFile view bytes)) (RefusesFile bytes)

-- a reply tells a minimal list of choices that fails as the given one; no property is judged
abbrev pub TellsShrunk : Expect → List ℕ → List ℕ → List ℕ → List ℕ → Reply → Type 0
TellsShrunk expect inputs program choices =
    TellsOne (PrintsWell (Shrinks expect [] inputs (opening form.Elf (length inputs) program choices)))
    (λ why. refusal expect [] inputs (opening form.Elf (length inputs) program choices) ≡ Some why)
