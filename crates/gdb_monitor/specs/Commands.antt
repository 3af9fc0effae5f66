-- The commands of lines.
use Rattle.std.specs.Prelude.{ℕ, List, [], ◌∷◌, Option, Some, None, codes, if◌then◌else◌}
use Rattle.std.specs.Option.{option_map}
use Rattle.std.specs.Str.{bytes_eq}
use Rattle.debug_text.specs.Words.{next_word, behind_word}
use Rattle.debug_text.specs.Numbers.{decimal_of}
use Rattle.gdb_monitor.specs.declared.command.Command.{Command}
use Rattle.gdb_monitor.specs.declared.command.Command.TheVariants.{Where, Goto, Forward, Back, Nearby, Schedule, Harts, Help}

-- the command of a single word
abbrev pub bare_monitor : List ℕ → Option Command
bare_monitor name =
    if bytes_eq name (codes "where") then Some Where
    else (if bytes_eq name (codes "forward") then Some (Forward 1)
    else (if bytes_eq name (codes "back") then Some (Back 1)
    else (if bytes_eq name (codes "schedule") then Some Nearby
    else (if bytes_eq name (codes "harts") then Some Harts
    else (if bytes_eq name (codes "help") then Some Help else None)))))

-- the command of a word with one operand
abbrev pub single_monitor : List ℕ → List ℕ → Option Command
single_monitor name operand =
    if bytes_eq name (codes "goto") then option_map Goto (decimal_of operand)
    else (if bytes_eq name (codes "forward") then option_map Forward (decimal_of operand)
    else (if bytes_eq name (codes "back") then option_map Back (decimal_of operand) else None))

-- the steps of the choices between two numbers, if both are valid
abbrev pub schedule_of : Option ℕ → Option ℕ → Option Command
schedule_of None second = None
schedule_of (Some a) None = None
schedule_of (Some a) (Some b) = Some (Schedule a b)

-- the command of a word with two operands
abbrev pub double_monitor : List ℕ → List ℕ → List ℕ → Option Command
double_monitor name first second =
    if bytes_eq name (codes "schedule")
    then schedule_of (decimal_of first) (decimal_of second) else None

-- the command of a word with at most two operands; a line without words asks where the run is
abbrev pub monitor_by : List ℕ → List ℕ → List ℕ → Option Command
monitor_by [] first second = Some Where
monitor_by (b ∷ name) [] second = bare_monitor (b ∷ name)
monitor_by (b ∷ name) (c ∷ first) [] = single_monitor (b ∷ name) (c ∷ first)
monitor_by (b ∷ name) (c ∷ first) (d ∷ second) = double_monitor (b ∷ name) (c ∷ first) (d ∷ second)

-- no command has more than two operands
abbrev pub unless_more : List ℕ → Option Command → Option Command
unless_more [] command = command
unless_more (b ∷ more) command = None

-- the command of a line, if it is one
unfoldable pub monitor_command : List ℕ → Option Command
monitor_command line =
    let rest = behind_word line in
    let rest_2 = behind_word rest in
    unless_more (next_word (behind_word rest_2))
    (monitor_by (next_word line) (next_word rest) (next_word rest_2))
