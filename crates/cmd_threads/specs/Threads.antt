-- The history of a run on threads, its verdict, and why it is refused.
use Rattle.std.specs.Prelude.{◌≡◌, ℕ, List, Option, Ok, Err, string_bytes}
use Rattle.image.specs.Image.{ImageValue}
use Rattle.history.specs.declared.entry.Entry.{Entry}
use Rattle.history.specs.Printing.{history_text}
use Rattle.program_open.specs.CommandFaults.{IfNames}
use Rattle.program_open.specs.Opening.{after_program}
use Rattle.program_open.specs.Program.{program_of}
use Rattle.program_open.specs.declared.program.ProgramForm.TheVariants as form
use Rattle.program_open.specs.declared.command_fault.CommandFault.{CommandFault}
use Rattle.program_open.specs.declared.command_fault.CommandFault.TheVariants as fault
use Rattle.cmd_run.specs.Certified.{EndsKept}
use Rattle.outcome.specs.declared.expect.Exit.{Exit}
use Rattle.thread_run.specs.Outcome.{IsOutcome}
use Rattle.thread_run.specs.declared.fault.RunFault.{RunFault}
use Rattle.thread_run.specs.declared.fault.RunFault.TheVariants as threads
use Rattle.cmd_threads.specs.declared.threads.ThreadsAnswer.{ThreadsAnswer}

-- an answer's history is one of the file's program, in accord with plan, budget and total
pub record IsAnswer {A : Type 0} (inputs : List ℕ) (budget : ℕ) (total : Option ℕ) (plan : List (ℕ × ℕ)) (program : List ℕ) (answer : ThreadsAnswer A) : Type 0 where
  pub image : ImageValue
  pub entries : List Entry
  pub reads : program_of form.Elf program ≡ Ok image
  pub outcome : IsOutcome image inputs budget total plan (record { image = image; inputs = inputs; history = entries })
  pub text : string_bytes answer.history ≡ history_text entries

-- the lines end with `verdict kept`, and the status shows no broken rule
abbrev pub HasKeptVerdict : {A : Type 0} → Exit → ThreadsAnswer A → Type 0
HasKeptVerdict {A} exit answer = EndsKept exit (string_bytes answer.lines) answer.status

-- a fault of the threads
abbrev pub fault_of_run : RunFault → CommandFault
fault_of_run threads.StartRefused = fault.ThreadRefused
fault_of_run threads.Stale = fault.Stale
fault_of_run threads.Memory = fault.Memory

-- how an invalid number of inputs or program is reported: the program is checked first
abbrev pub RefusesThreads : ℕ → List ℕ → CommandFault → Type 0
RefusesThreads harts program fault.ThreadRefused = Unit {0}
RefusesThreads harts program fault.Stale = Unit {0}
RefusesThreads harts program why =
    after_program harts (λ image. Ok image) (program_of form.Elf program) ≡ Err why

-- the fact for the program's file if a fault names it; else a thread was refused, or a hart stale
abbrev pub IfReads : CommandFault → Type 0 → Type 0
IfReads fault.ThreadRefused file = Unit {0}
IfReads fault.Stale file = Unit {0}
IfReads why file = IfNames why file ⊥ ⊥ ⊥
