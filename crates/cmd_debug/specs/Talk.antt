-- A debugger session: lines and answers.
use Rattle.std.specs.Prelude.{ℕ, ◌++◌, false, List, [], ◌∷◌, take, Option, Ok, Err, codes, if◌then◌else◌}
use Rattle.std.specs.Io.KnownBytes.{Appends}
use Rattle.std.specs.Str.{is_utf8}
use Rattle.elf_read.specs.Symbol.{SymbolValue}
use Rattle.debug_session.specs.Session.{Session}
use Rattle.debug_text.specs.Reply.{Outcome, Reply, reply_to}
use Rattle.debug_text.specs.declared.fault.DebugFault.{DebugFault}
use Rattle.debug_text.specs.declared.fault.DebugFault.TheVariants as faults

-- the line shown for a refused command
abbrev pub fault_line : DebugFault → List ℕ
fault_line faults.BadCommand = codes "bad command\n"
fault_line faults.PastEnd = codes "past end\n"
fault_line faults.NoSymbol = codes "no symbol\n"
fault_line faults.SeveralSymbols = codes "several symbols\n"
fault_line faults.Memory = codes "out of memory\n"

-- the reply to a line of any length, without its end, where the program has these symbols; bytes
-- that aren't UTF-8 are no command
abbrev pub line_reply : List SymbolValue → Session → List ℕ → Reply
line_reply symbols s line = if is_utf8 line then reply_to symbols s line else Err faults.BadCommand

-- a reply as an outcome: a refused command is reported, and changes nothing
abbrev pub settled : Session → Reply → Outcome
settled s (Ok outcome) = outcome
settled s (Err why) = record { text = fault_line why; after = s; ended = false }

-- the outcome of a line, without its end
unfoldable pub outcome_to : List SymbolValue → Session → List ℕ → Outcome
outcome_to symbols s line = settled s (line_reply symbols s line)

-- the text shown for lines, until one ends the session
abbrev pub answers : List SymbolValue → Session → List (List ℕ) → List ℕ
answers symbols s [] = []
answers symbols s (line ∷ lines) =
    let outcome = outcome_to symbols s line in
    outcome.text ++ (if outcome.ended then [] else answers symbols outcome.after lines)

-- a beginning of these bytes was appended
abbrev pub BeginsTalk : Option (List ℕ) → Option (List ℕ) → List ℕ → Type 0
BeginsTalk old new bytes = (n : ℕ) × Appends old new (take n bytes)
