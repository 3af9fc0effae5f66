-- The commands of lines.
use Rattle.std.specs.Prelude.{ℕ, Bool, List, [], ◌∷◌, Option, Some, None, Result, Ok, Err, codes, if◌then◌else◌}
use Rattle.std.specs.Str.{bytes_eq}
use Rattle.elf_read.specs.Symbol.{SymbolValue}
use Rattle.debug_text.specs.Words.{next_word, behind_word, line_words}
use Rattle.debug_text.specs.Numbers.{decimal_of}
use Rattle.debug_text.specs.Addresses.{NumberRead, or_bad, address_meant}
use Rattle.debug_text.specs.RegisterNames.{no_registers, registers_named}
use Rattle.debug_session.specs.declared.stop.WatchKind.TheVariants.{Change, Read, Access}
use Rattle.debug_text.specs.declared.commands.Command.{Command}
use Rattle.debug_text.specs.declared.register_names.RegisterList.{RegisterList}
use Rattle.debug_text.specs.declared.commands.Command.TheVariants.{Nothing, Help, Where, Goto, Forward, Back, Step, Break, Watch, Delete, Go, Rgo, Steps, Listing, Regs, Registers, Mem, Quit}
use Rattle.debug_text.specs.declared.fault.DebugFault.{DebugFault}
use Rattle.debug_text.specs.declared.fault.DebugFault.TheVariants.{BadCommand}

-- a command, or why a line is none
abbrev pub CommandRead : Type 0
CommandRead = Result Command DebugFault

-- the command of a single word
abbrev pub bare_command : List ℕ → CommandRead
bare_command name =
    if bytes_eq name (codes "where") then Ok Where
    else (if bytes_eq name (codes "forward") then Ok (Forward 1)
    else (if bytes_eq name (codes "back") then Ok (Back 1)
    else (if bytes_eq name (codes "go") then Ok Go
    else (if bytes_eq name (codes "rgo") then Ok Rgo
    else (if bytes_eq name (codes "quit") then Ok Quit
    else (if bytes_eq name (codes "help") then Ok Help
    else (if bytes_eq name (codes "list") then Ok (Listing None) else Err BadCommand)))))))

-- a command of one number, if it is valid
abbrev pub with_one : (ℕ → Command) → NumberRead → CommandRead
with_one make (Err why) = Err why
with_one make (Ok a) = Ok (make a)

-- the command of a word with one operand
abbrev pub single_command : List SymbolValue → List ℕ → List ℕ → CommandRead
single_command symbols name operand =
    if bytes_eq name (codes "goto") then with_one Goto (or_bad (decimal_of operand))
    else (if bytes_eq name (codes "forward") then with_one Forward (or_bad (decimal_of operand))
    else (if bytes_eq name (codes "back") then with_one Back (or_bad (decimal_of operand))
    else (if bytes_eq name (codes "break") then with_one Break (address_meant symbols operand)
    else (if bytes_eq name (codes "watch") then with_one (Watch Change) (address_meant symbols operand)
    else (if bytes_eq name (codes "regs") then with_one Regs (or_bad (decimal_of operand))
    else (if bytes_eq name (codes "step") then with_one Step (or_bad (decimal_of operand))
    else (if bytes_eq name (codes "rwatch") then with_one (Watch Read) (address_meant symbols operand)
    else (if bytes_eq name (codes "awatch") then with_one (Watch Access) (address_meant symbols operand)
    else (if bytes_eq name (codes "delete") then with_one Delete (address_meant symbols operand)
    else (if bytes_eq name (codes "list") then with_one (λ h. Listing (Some h)) (or_bad (decimal_of operand)) else Err BadCommand))))))))))

-- a command of two numbers, if both are valid; else the first fault
abbrev pub with_both : (ℕ → ℕ → Command) → NumberRead → NumberRead → CommandRead
with_both make (Err why) second = Err why
with_both make (Ok a) (Err why) = Err why
with_both make (Ok a) (Ok b) = Ok (make a b)

-- the command of a word with two operands
abbrev pub double_command : List SymbolValue → List ℕ → List ℕ → List ℕ → CommandRead
double_command symbols name first second =
    if bytes_eq name (codes "steps") then with_both Steps (or_bad (decimal_of first)) (or_bad (decimal_of second))
    else (if bytes_eq name (codes "mem") then with_both Mem (address_meant symbols first) (or_bad (decimal_of second)) else Err BadCommand)

-- the command of a word with at most two operands; a line without words is blank
abbrev pub command_by : List SymbolValue → List ℕ → List ℕ → List ℕ → CommandRead
command_by symbols [] first second = Ok Nothing
command_by symbols (b ∷ name) [] second = bare_command (b ∷ name)
command_by symbols (b ∷ name) (c ∷ first) [] = single_command symbols (b ∷ name) (c ∷ first)
command_by symbols (b ∷ name) (c ∷ first) (d ∷ second) = double_command symbols (b ∷ name) (c ∷ first) (d ∷ second)

-- the command of a hart's number and a list of registers, if both are valid
abbrev pub with_registers : NumberRead → Option RegisterList → CommandRead
with_registers (Err why) list = Err why
with_registers (Ok hart) None = Err BadCommand
with_registers (Ok hart) (Some list) = Ok (Registers hart list)

-- the command that shows registers with these names
abbrev pub registers_command : List ℕ → List (List ℕ) → CommandRead
registers_command hart names = with_registers (or_bad (decimal_of hart)) (registers_named no_registers names)

-- no other command has more than two operands
abbrev pub if_no_more : List ℕ → CommandRead → CommandRead
if_no_more [] command = command
if_no_more (b ∷ more) command = Err BadCommand

-- `regs` with a second operand, or another command
abbrev pub if_regs : List ℕ → Bool → CommandRead → CommandRead → CommandRead
if_regs [] is_regs registers command = command
if_regs (b ∷ second) is_regs registers command = if is_regs then registers else command

-- the command of a first word, two operands, the word behind them, and the names behind the first
abbrev pub line_command : List SymbolValue → List ℕ → List ℕ → List ℕ → List ℕ → List (List ℕ) → CommandRead
line_command symbols name first second more names =
    if_regs second (bytes_eq name (codes "regs")) (registers_command first names)
    (if_no_more more (command_by symbols name first second))

-- the command of a line, whose addresses may be these symbols, or why it is none
unfoldable pub command_of : List SymbolValue → List ℕ → CommandRead
command_of symbols line =
    let rest = behind_word line in
    let names = behind_word rest in
    line_command symbols (next_word line) (next_word rest) (next_word names) (next_word (behind_word names)) (line_words names)
