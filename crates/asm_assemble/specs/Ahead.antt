-- Forward references, resolved from the last statement to the first.
use Rattle.std.specs.Prelude.{ℕ, ◌%◌, ◌^◌, List, [], ◌∷◌, Option, Some, None, if◌then◌else◌}
use Rattle.asm_statement.specs.Statement.{StatementValue, BodyValue}
use Rattle.asm_statement.specs.declared.operand.Target.{Target}
use Rattle.asm_statement.specs.declared.operand.Target.TheVariants as targets
use Rattle.asm_statement.specs.declared.statement.Body.TheVariants as body
use Rattle.asm_statement.specs.declared.statement.Instruction.TheVariants as read
use Rattle.asm_assemble.specs.declared.cursor.Cursor.{Cursor}
use Rattle.asm_assemble.specs.declared.locals.Place.{Place}
use Rattle.asm_assemble.specs.Cursors.{cursor_address, stepped_cursor}
use Rattle.asm_assemble.specs.Locals.{Local, in_source, local_place, is_local_name, back_of}

-- the address of each statement, modulo 2^32
unfoldable pub addresses : Cursor → List StatementValue → List ℕ
addresses c [] = []
addresses c (s ∷ ss) = cursor_address c % 2 ^ 32 ∷ addresses (stepped_cursor c s.body) ss

-- the next local label with these digits among statements at these addresses
unfoldable pub ahead_in : List ℕ → List StatementValue → List ℕ → Option Place
ahead_in [] ss digits = None
ahead_in (at ∷ ats) [] digits = None
ahead_in (at ∷ ats) (s ∷ ss) digits =
    if is_local_name digits s.body then Some (local_place s.source at) else ahead_in ats ss digits

-- the address of a target that is a forward reference, given the next label for each digits
unfoldable pub target_ahead : (List ℕ → Option Place) → ℕ → Target → Option ℕ
target_ahead next source (targets.Ahead digits) = in_source source (next digits)
target_ahead next source (targets.Back digits) = None
target_ahead next source (targets.Address n) = None
target_ahead next source (targets.Symbol name) = None

-- the address of a statement's forward reference
unfoldable pub reference : (List ℕ → Option Place) → ℕ → BodyValue → Option ℕ
reference next source (body.Instruction (read.Jal rd target)) = target_ahead next source target
reference next source (body.Instruction (read.Branch op rs1 rs2 target)) = target_ahead next source target
reference next source b = None

-- the addresses of all statements' forward references
unfoldable pub references : List ℕ → List StatementValue → List (Option ℕ)
references [] ss = []
references (at ∷ ats) [] = []
references (at ∷ ats) (s ∷ ss) = reference (ahead_in ats ss) s.source s.body ∷ references ats ss

-- the address of a target that is a local reference, given the address of a forward one
unfoldable pub target_by : List Local → Option ℕ → ℕ → Target → Option ℕ
target_by before ahead source (targets.Back digits) = back_of before source digits
target_by before ahead source (targets.Ahead digits) = ahead
target_by before ahead source (targets.Address n) = None
target_by before ahead source (targets.Symbol name) = None

-- the address of a statement's local reference, given the address of a forward one
unfoldable pub local_by : List Local → Option ℕ → ℕ → BodyValue → Option ℕ
local_by before ahead source (body.Instruction (read.Jal rd target)) =
    target_by before ahead source target
local_by before ahead source (body.Instruction (read.Branch op rs1 rs2 target)) =
    target_by before ahead source target
local_by before ahead source b = None
