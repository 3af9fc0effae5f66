-- The answer of a run on threads over banks: the choices of the logs' run, and what they print.
use Rattle.std.specs.Prelude.{◌≡◌, ℕ, List, [], map, None, Ok, string_bytes}
use Rattle.image.specs.Image.{ImageValue}
use Rattle.hart_step.specs.Hart.{HartValue}
use Rattle.machine.specs.declared.choice.Choice.{Choice}
use Rattle.bank_laws.specs.Banks.{after_log}
use Rattle.bank_laws.specs.Merged.{first_bank, EndsIn}
use Rattle.bank_memory.specs.BankLog.{BankLog}
use Rattle.bank_hart_log.specs.HartLog.{HartLogValue, logged_slot}
use Rattle.bank_order.specs.Merged.{IsMergeOf}
use Rattle.bank_merge.specs.Logs.{bank_log, segments_of_all}
use Rattle.bank_merge.specs.Merge.{slots, AreMatched}
use Rattle.bank_threads.specs.Banked.{IsBanked}
use Rattle.bank_threads.specs.declared.fault.RunFault.{RunFault}
use Rattle.bank_threads.specs.declared.fault.RunFault.TheVariants as banked
use Rattle.history.specs.declared.entry.Entry.{Entry}
use Rattle.history.specs.History.{expanded}
use Rattle.history.specs.Printing.{history_text}
use Rattle.history.specs.Plain.{plain_entry}
use Rattle.outcome.specs.declared.expect.Exit.{Exit}
use Rattle.outcome.specs.declared.expect.Expect.{Expect}
use Rattle.program_open.specs.Program.{program_of}
use Rattle.program_open.specs.declared.program.ProgramForm.TheVariants as form
use Rattle.program_open.specs.declared.command_fault.CommandFault.{CommandFault}
use Rattle.program_open.specs.declared.command_fault.CommandFault.TheVariants as fault
use Rattle.cmd_run.specs.Run.{shown, world_after}
use Rattle.cmd_threads.specs.Threads as one_lock
use Rattle.cmd_threads.specs.declared.threads.ThreadsAnswer.{ThreadsAnswer}
use Rattle.cmd_threads.specs.declared.history_use.HistoryUse.{HistoryUse}
use Rattle.cmd_threads.specs.declared.history_use.HistoryUse.TheVariants.{Read, Unread}

-- the hart at the end of a log
abbrev pub hart_of_log : HartLogValue → HartValue
hart_of_log l = (logged_slot l).hart

-- choices are those of merged logs that a run on threads leaves; they lead to the logs' harts, the
-- banks' bytes and the reservations of slots and banks
pub record IsMergedRun (image : ImageValue) (inputs : List ℕ) (budget : ℕ) (plan : List (ℕ × ℕ)) (choices : List Choice) : Type 0 where
  pub logs : List HartLogValue
  pub banks : List BankLog
  pub banked : IsBanked image inputs budget plan logs banks
  pub matched : AreMatched logs banks
  pub merged : IsMergeOf (segments_of_all logs) choices
  pub ends : EndsIn image inputs (world_after image inputs choices) (slots image inputs logs) (λ b. after_log (first_bank image) (bank_log banks b))

-- the text of a history that is read, else none
abbrev pub text_for : HistoryUse → List Entry → List ℕ
text_for Read entries = history_text entries
text_for Unread entries = []

-- without a rule
abbrev pub unruled : Exit → Expect
unruled exit = record { rule = None; exit = exit }

-- an answer has the history of such choices if it is read, and what a replay of it prints
pub record IsOfRun {A : Type 0} (image : ImageValue) (inputs : List ℕ) (budget : ℕ) (plan : List (ℕ × ℕ)) (expect : Expect) (history : HistoryUse) (answer : ThreadsAnswer A) : Type 0 where
  pub choices : List Choice
  pub run : IsMergedRun image inputs budget plan choices
  pub entries : List Entry
  pub each : entries ≡ map plain_entry choices
  pub stand : expanded entries ≡ choices
  pub text : string_bytes answer.history ≡ text_for history entries
  pub prints : shown expect inputs (expanded entries) (world_after image inputs (expanded entries))
      ≡ (string_bytes answer.lines, answer.status)

-- an answer is that of a run of the file's program
pub record IsBankedAnswer {A : Type 0} (inputs : List ℕ) (budget : ℕ) (plan : List (ℕ × ℕ)) (expect : Expect) (history : HistoryUse) (program : List ℕ) (answer : ThreadsAnswer A) : Type 0 where
  pub image : ImageValue
  pub reads : program_of form.Elf program ≡ Ok image
  pub of_run : IsOfRun image inputs budget plan expect history answer

-- a fault of the threads
abbrev pub fault_of_banked_run : RunFault → CommandFault
fault_of_banked_run banked.StartRefused = fault.ThreadRefused
fault_of_banked_run banked.StampsExhausted = fault.StampsExhausted
fault_of_banked_run banked.Stale = fault.Stale
fault_of_banked_run banked.Memory = fault.Memory

-- how an invalid input is reported: as under one lock, or stamps are exhausted
abbrev pub RefusesBanked : ℕ → List ℕ → CommandFault → Type 0
RefusesBanked harts program fault.StampsExhausted = Unit {0}
RefusesBanked harts program why = one_lock.RefusesThreads harts program why

-- the fact for the program's file if a fault names it
abbrev pub IfReadsBanked : CommandFault → Type 0 → Type 0
IfReadsBanked fault.StampsExhausted file = Unit {0}
IfReadsBanked why file = one_lock.IfReads why file
