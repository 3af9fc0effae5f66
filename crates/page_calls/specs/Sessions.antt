-- What a session with the debugger prints, whole.
use Rattle.std.specs.Prelude.{ℕ, List}
use Rattle.std.specs.Str.Lines.{lines}
use Rattle.std.specs.declared.result.Result.TheVariants.{Ok, Err}
use Rattle.byte_io.specs.declared.status.Status.TheVariants.{Done}
use Rattle.cmd_debug.specs.Opening.{Opening, opened}
use Rattle.cmd_debug.specs.Talk.{answers}
use Rattle.elf_read.specs.Symbol.{SymbolValue}
use Rattle.program_open.specs.Answers.{Answer}
use Rattle.program_open.specs.declared.program.ProgramForm.TheVariants.{Elf}
use Rattle.program_named.specs.Symbols.{program_symbols}

-- the answers of a session to the lines of commands, or why it doesn't begin
abbrev pub answers_of : List SymbolValue → List ℕ → Opening → Answer
answers_of symbols commands (Ok session) = Ok (answers symbols session (lines commands), Done)
answers_of symbols commands (Err why) = Err why

-- those of a program's session
abbrev pub session_answer : List ℕ → List ℕ → List ℕ → List ℕ → Answer
session_answer inputs program choices commands =
    answers_of (program_symbols Elf program) commands (opened inputs program choices)
