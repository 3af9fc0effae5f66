-- The answer of a replay: the printed world after a history and the verdict, or the first fault.
use Rattle.std.specs.Prelude.{ℕ, List, length}
use Rattle.std.specs.declared.result.Result.{Result}
use Rattle.std.specs.declared.result.Result.TheVariants.{Ok, Err}
use Rattle.image.specs.Image.{ImageValue}
use Rattle.outcome.specs.declared.expect.Expect.{Expect}
use Rattle.history.specs.declared.entry.Entry.{Entry}
use Rattle.history.specs.declared.history_text.HistoryFault.{HistoryFault}
use Rattle.history.specs.declared.history_text.HistoryFault.TheVariants as history
use Rattle.history.specs.History.{expanded}
use Rattle.history.specs.Reading.{entries_of}
use Rattle.program_open.specs.Answers.{Answer}
use Rattle.program_open.specs.Opening.{after_program}
use Rattle.program_open.specs.Program.{program_of}
use Rattle.program_open.specs.declared.program.ProgramForm.TheVariants as form
use Rattle.program_open.specs.declared.command_fault.CommandFault.{CommandFault}
use Rattle.program_open.specs.declared.command_fault.CommandFault.TheVariants as fault
use Rattle.cmd_run.specs.Run.{shown, world_after}

-- a fault of the history text
abbrev pub fault_of_history : HistoryFault → CommandFault
fault_of_history (history.BadEntry offset) = fault.BadEntry offset
fault_of_history (history.NoHart offset) = fault.NoHartOfEntry offset
fault_of_history history.Memory = fault.Memory

-- an image with its history, or the fault
abbrev pub OpenedReplay : Type 0
OpenedReplay = Result (ImageValue × List Entry) CommandFault

-- an image with the history that is read
abbrev pub with_history : ImageValue → Result (List Entry) HistoryFault → OpenedReplay
with_history image (Ok entries) = Ok (image, entries)
with_history image (Err why) = Err (fault_of_history why)

-- a replay of a program and a history text with this number of inputs, opened
unfoldable pub replay_opening : ℕ → List ℕ → List ℕ → OpenedReplay
replay_opening harts program text = after_program harts
    (λ image. with_history image (entries_of harts text)) (program_of form.Elf program)

-- the answer for an opened replay
abbrev pub replay_after : Expect → List ℕ → OpenedReplay → Answer
replay_after expect inputs (Ok opened) =
    Ok (shown expect inputs (expanded opened.1) (world_after opened.0 inputs (expanded opened.1)))
replay_after expect inputs (Err why) = Err why

-- the answer for a program and a history text, by what is expected of the run
unfoldable pub replay_answer : List ℕ → Expect → List ℕ → List ℕ → Answer
replay_answer inputs expect program text = replay_after expect inputs (replay_opening (length inputs) program text)
