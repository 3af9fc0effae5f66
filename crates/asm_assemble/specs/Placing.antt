-- Phase 1: the places of statements, and the faults of placing.
use Rattle.std.specs.Prelude.{ℕ, ◌≡◌, ◌+◌, ◌%◌, ◌^◌, Bool, false, ◌==◌, nat_lt, List, [], ◌∷◌, ◌++◌, Option, Some, None, Result, Ok, Err, is_some, if◌then◌else◌}
use Rattle.std.specs.Option.{option_or}
use Rattle.asm_statement.specs.Statement.{StatementValue, BodyValue}
use Rattle.asm_statement.specs.declared.fault.Fault.{Fault}
use Rattle.asm_statement.specs.declared.fault.FaultKind.{FaultKind}
use Rattle.asm_statement.specs.declared.fault.FaultKind.TheVariants as kinds
use Rattle.asm_statement.specs.declared.statement.Section.{Section}
use Rattle.asm_statement.specs.declared.statement.Body.TheVariants as body
use Rattle.asm_statement.specs.declared.statement.Directive.TheVariants as directive
use Rattle.asm_assemble.specs.declared.cursor.Cursor.{Cursor}
use Rattle.asm_assemble.specs.Program.{SymbolList}
use Rattle.asm_assemble.specs.Cursors.{size, cursor_address, stepped_cursor}
use Rattle.asm_assemble.specs.Operands.{found}

-- a fault of a statement
abbrev pub at_statement : StatementValue → FaultKind → Fault
at_statement s kind = record { kind = kind; source = s.source; line = s.line }

-- the rest's result if a statement has no fault, else its fault
abbrev pub unless_faulted : {X : Type 0} → Option FaultKind → StatementValue → Result X Fault → Result X Fault
unless_faulted None s rest = rest
unless_faulted (Some kind) s rest = Err (at_statement s kind)

-- the index of the i-th statement, if its size at an address is above 0
abbrev pub if_sized : ℕ → ℕ → BodyValue → Option ℕ
if_sized i at b = if nat_lt 0 (size at b) then Some i else None

-- the index of the last statement of size above 0, the first being the i-th
unfoldable pub last_sized : ℕ → Cursor → List StatementValue → Option ℕ
last_sized i c [] = None
last_sized i c (s ∷ ss) =
    option_or (last_sized (i + 1) (stepped_cursor c s.body) ss) (if_sized i (cursor_address c) s.body)

-- the fault Align of an instruction whose address is not a multiple of 4
abbrev pub misaligned : ℕ → Option FaultKind
misaligned at = if at % 4 == 0 then None else Some kinds.Align

-- the fault of a statement at an address, apart from the size of all
unfoldable pub own_fault : SymbolList → ℕ → BodyValue → Option FaultKind
own_fault seen at (body.Label name) = if is_some (found seen name) then Some kinds.Twice else None
own_fault seen at (body.Instruction i) = misaligned at
own_fault seen at (body.Pseudo p) = misaligned at
own_fault seen at (body.Directive (directive.Align n)) =
    if nat_lt 12 n then Some kinds.Align else None
own_fault seen at b = None

-- the lowest fault of a statement when it is placed; `heavy` says that it gets TooLarge
unfoldable pub place_fault : SymbolList → Bool → ℕ → BodyValue → Option FaultKind
place_fault seen heavy at b =
    option_or (own_fault seen at b) (if heavy then Some kinds.TooLarge else None)

-- a set of names
abbrev pub Globals : Type 0
Globals = List (List ℕ × Unit {0})

-- the names of a `.globl`, each once, after those seen
unfoldable pub with_names : Globals → List (List ℕ) → Globals
with_names seen [] = seen
with_names seen (name ∷ names) =
    if is_some (found seen name) then with_names seen names
    else with_names (seen ++ (name, tt) ∷ []) names

-- the names that a statement makes global, after those seen
unfoldable pub with_globals : Globals → BodyValue → Globals
with_globals seen (body.Directive (directive.Global names)) = with_names seen names
with_globals seen b = seen

-- the names that statements make global, after those seen
unfoldable pub globals_from : Globals → List StatementValue → Globals
globals_from seen [] = seen
globals_from seen (s ∷ ss) = globals_from (with_globals seen s.body) ss

-- the symbol that a statement at an address defines
unfoldable pub placed_symbols_at : Globals → Section → ℕ → BodyValue → SymbolList
placed_symbols_at globals section at (body.Label name) =
    (name, record { section = section; address = at % 2 ^ 32; global = is_some (found globals name) }) ∷ []
placed_symbols_at globals section at b = []

-- the symbol that a statement defines is new
unfoldable pub IsNew : SymbolList → BodyValue → Type 0
IsNew seen (body.Label name) = found seen name ≡ None
IsNew seen b = Unit {0}

-- whether an index is this one
abbrev pub is_at : Option ℕ → ℕ → Bool
is_at None i = false
is_at (Some j) i = i == j

-- all symbols, after those seen, or the first fault; the i-th statement comes next
unfoldable pub placing : Globals → SymbolList → Option ℕ → ℕ → Cursor → List StatementValue → Result SymbolList Fault
placing globals seen heavy i c [] = Ok seen
placing globals seen heavy i c (s ∷ ss) =
    unless_faulted (place_fault seen (is_at heavy i) (cursor_address c) s.body) s
    (placing globals (seen ++ placed_symbols_at globals c.section (cursor_address c) s.body) heavy (i + 1) (stepped_cursor c s.body) ss)
