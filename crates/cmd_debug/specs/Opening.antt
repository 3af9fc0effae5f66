-- The session that a file, inputs and a choice text begin, or the first fault; and its output.
use Rattle.std.specs.Prelude.{ℕ, List, [], length, Option}
use Rattle.std.specs.Io.KnownBytes.{Appends}
use Rattle.std.specs.Str.Lines.{lines}
use Rattle.std.specs.declared.result.Result.{Result}
use Rattle.std.specs.declared.result.Result.TheVariants.{Ok, Err}
use Rattle.elf_read.specs.Symbol.{SymbolValue}
use Rattle.image.specs.Image.{ImageValue}
use Rattle.machine.specs.declared.choice.Choice.{Choice}
use Rattle.debug_session.specs.Points.{no_words}
use Rattle.debug_session.specs.Session.{Session}
use Rattle.program_open.specs.Opening.{Opened, opening}
use Rattle.program_open.specs.CommandFaults.{status_of_fault}
use Rattle.program_open.specs.declared.program.ProgramForm.TheVariants as form
use Rattle.program_open.specs.declared.command_fault.CommandFault.{CommandFault}
use Rattle.byte_io.specs.declared.status.Status.{Status}
use Rattle.byte_io.specs.declared.status.Status.TheVariants as status
use Rattle.cmd_debug.specs.Talk.{answers, BeginsTalk}
use Rattle.cmd_debug.specs.declared.fault.DebugEngineFault.{DebugEngineFault}
use Rattle.cmd_debug.specs.declared.fault.DebugEngineFault.TheVariants as engine

-- a session, or the fault
abbrev pub Opening : Type 0
Opening = Result Session CommandFault

-- a session at the start, without breakpoints and watches
abbrev pub first_session : ImageValue → List ℕ → List Choice → Session
first_session image inputs choices =
    record { image = image; inputs = inputs; choices = choices; position = 0; breaks = []; watches = no_words }

-- the session for an opened run
abbrev pub session_after : List ℕ → Opened → Opening
session_after inputs (Ok run) = Ok (first_session run.0 inputs run.1)
session_after inputs (Err why) = Err why

-- the session of inputs, a file's bytes and a choice text
unfoldable pub opened : List ℕ → List ℕ → List ℕ → Opening
opened inputs program text = session_after inputs (opening form.Elf (length inputs) program text)

-- the answers to the lines of the commands were appended
abbrev pub Answers : List SymbolValue → Opening → List ℕ → Option (List ℕ) → Option (List ℕ) → Type 0
Answers symbols (Ok s) commands old new = Appends old new (answers symbols s (lines commands))
Answers symbols (Err why) commands old new = ⊥

-- a beginning of the answers was appended
abbrev pub BeginsToAnswer : List SymbolValue → Opening → List ℕ → Option (List ℕ) → Option (List ℕ) → Type 0
BeginsToAnswer symbols (Ok s) commands old new = BeginsTalk old new (answers symbols s (lines commands))
BeginsToAnswer symbols (Err why) commands old new = ⊥

-- a fact for the case that no session began
abbrev pub IfUnopened : DebugEngineFault → (CommandFault → Type 0) → Type 0
IfUnopened (engine.Refused why) P = P why
IfUnopened why P = Unit {0}

-- a fact for the case that a session began and did not end
abbrev pub IfCut : DebugEngineFault → Type 0 → Type 0
IfCut (engine.Refused why) P = Unit {0}
IfCut why P = P

-- the status of a fault
abbrev pub debug_status : DebugEngineFault → Status
debug_status (engine.Refused why) = status_of_fault why
debug_status engine.Commands = status.Refused
debug_status engine.Answers = status.Refused
debug_status engine.Memory = status.NoMemory
