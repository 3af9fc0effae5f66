-- Local labels. Sources are consecutive; so if the nearest label with some digits is in another
-- source, there is none with these digits in between.
use Rattle.std.specs.Prelude.{ℕ, ◌==◌, ◌%◌, ◌^◌, Bool, false, List, [], ◌∷◌, Option, Some, None, if◌then◌else◌}
use Rattle.std.specs.Str.{bytes_eq}
use Rattle.asm_statement.specs.Statement.{StatementValue, BodyValue}
use Rattle.asm_statement.specs.declared.operand.Target.{Target}
use Rattle.asm_statement.specs.declared.operand.Target.TheVariants as targets
use Rattle.asm_statement.specs.declared.statement.Body.TheVariants as body
use Rattle.asm_statement.specs.declared.statement.Instruction.TheVariants as read
use Rattle.asm_assemble.specs.declared.cursor.Cursor.{Cursor}
use Rattle.asm_assemble.specs.declared.locals.Place.{Place}
use Rattle.asm_assemble.specs.Cursors.{cursor_address, stepped_cursor}
use Rattle.asm_assemble.specs.Operands.{found}

-- the digits of a local label, and its place
abbrev pub Local : Type 0
Local = List ℕ × Place

-- the address of a place, if it is in this source
unfoldable pub in_source : ℕ → Option Place → Option ℕ
in_source source None = None
in_source source (Some place) = if place.source == source then Some place.address else None

-- the place of a local label at an address in a source
abbrev pub local_place : ℕ → ℕ → Place
local_place source at = record { source = source; address = at % 2 ^ 32 }

-- whether a statement is a local label of these digits
unfoldable pub is_local_name : List ℕ → BodyValue → Bool
is_local_name digits (body.LocalLabel name) = bytes_eq digits name
is_local_name digits b = false

-- the address of the last earlier label with these digits, if it is in this source
unfoldable pub back_of : List Local → ℕ → List ℕ → Option ℕ
back_of before source digits = in_source source (found before digits)

-- the next local label of these digits
unfoldable pub ahead_of : Cursor → List StatementValue → List ℕ → Option Place
ahead_of c [] digits = None
ahead_of c (s ∷ ss) digits =
    if is_local_name digits s.body then Some (local_place s.source (cursor_address c))
    else ahead_of (stepped_cursor c s.body) ss digits

-- the local label of a statement at an address
unfoldable pub local_label_at : ℕ → ℕ → BodyValue → List Local
local_label_at source at (body.LocalLabel digits) = (digits, local_place source at) ∷ []
local_label_at source at b = []

-- the address of a target that is a local reference; the labels before it are in reverse order, and
-- the cursor is that of the statements after it
unfoldable pub local_target : List Local → Cursor → List StatementValue → ℕ → Target → Option ℕ
local_target before next after source (targets.Back digits) = back_of before source digits
local_target before next after source (targets.Ahead digits) =
    in_source source (ahead_of next after digits)
local_target before next after source (targets.Address n) = None
local_target before next after source (targets.Symbol name) = None

-- the address of a statement's local reference
unfoldable pub local_label_of : List Local → Cursor → List StatementValue → ℕ → BodyValue → Option ℕ
local_label_of before next after source (body.Instruction (read.Jal rd target)) =
    local_target before next after source target
local_label_of before next after source (body.Instruction (read.Branch op rs1 rs2 target)) =
    local_target before next after source target
local_label_of before next after source b = None
