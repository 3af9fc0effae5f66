-- The shapes of operands. `.._in_front` gives the item at the front and the lexemes after it.
use Rattle.std.specs.Prelude.{ℕ, ℤ, pos, negsuc, neg_ℤ, ◌==◌, List, [], ◌∷◌, map, Bool, false, if◌then◌else◌, codes, Option, Some, None, Result, Ok, Err}
use Rattle.std.specs.Borrow.{Bor}
use Rattle.std.specs.Str.{bytes_eq}
use Rattle.asm_lex.specs.declared.lexeme.Lexeme as program
use Rattle.asm_lex.specs.Lexemes.{Lexeme, Word, Number, Back, Ahead, Comma, Open, Close, Plus, Minus, Percent, seen}
use Rattle.asm_statement.specs.declared.fault.FaultKind.{FaultKind}
use Rattle.asm_statement.specs.declared.fault.FaultKind.TheVariants as faults
use Rattle.asm_statement.specs.declared.operand.Value.{Value}
use Rattle.asm_statement.specs.declared.operand.Value.TheVariants as values
use Rattle.asm_statement.specs.declared.operand.Immediate.{Immediate}
use Rattle.asm_statement.specs.declared.operand.Immediate.TheVariants as immediates
use Rattle.asm_statement.specs.declared.operand.Upper.{Upper}
use Rattle.asm_statement.specs.declared.operand.Upper.TheVariants as uppers
use Rattle.asm_statement.specs.declared.operand.Target.{Target}
use Rattle.asm_statement.specs.declared.operand.Target.TheVariants as targets
use Rattle.asm_statement.specs.Names.{register_of}

-- the result of a function `.._in_front`, as contracts see it
abbrev pub with_rest : {X : Type 0} → X × Bor (List program.Lexeme) → X × List Lexeme
with_rest r = (r.0, map seen r.1.now)

abbrev pub with_base_name : {X : Type 0} → X × Bor (List ℕ) → X × List ℕ
with_base_name r = (r.0, r.1.now)

abbrev pub name_with_rest : Bor (List ℕ) × Bor (List program.Lexeme) → List ℕ × List Lexeme
name_with_rest r = (r.0.now, map seen r.1.now)

abbrev pub names_with_rest : Bor (List ℕ) × Bor (List ℕ) × Bor (List program.Lexeme) → List ℕ × List ℕ × List Lexeme
names_with_rest r = (r.0.now, r.1.now, map seen r.2.now)

-- a name and the comma after it
unfoldable pub name_in_front : List Lexeme → Option (List ℕ × List Lexeme)
name_in_front (Word name ∷ Comma ∷ rest) = Some (name, rest)
name_in_front _ = None

-- two such names
unfoldable pub two_names_in_front : List Lexeme → Option (List ℕ × List ℕ × List Lexeme)
two_names_in_front (Word first ∷ Comma ∷ Word second ∷ Comma ∷ rest) = Some (first, second, rest)
two_names_in_front _ = None

-- a number, with its sign
unfoldable pub number_in_front : List Lexeme → Option (ℤ × List Lexeme)
number_in_front (Minus ∷ Number n w ∷ rest) = Some (neg_ℤ (pos n), rest)
number_in_front (Number n w ∷ rest) = Some (pos n, rest)
number_in_front _ = None

-- a number, negated
unfoldable pub turned_number_in_front : List Lexeme → Option (ℤ × List Lexeme)
turned_number_in_front (Minus ∷ Number n w ∷ rest) = Some (pos n, rest)
turned_number_in_front (Number n w ∷ rest) = Some (neg_ℤ (pos n), rest)
turned_number_in_front _ = None

-- the number added to a symbol's address: plus or minus a number, or nothing
unfoldable pub offset_in_front : List Lexeme → Option (ℤ × List Lexeme)
offset_in_front (Plus ∷ rest) = number_in_front rest
offset_in_front (Minus ∷ rest) = turned_number_in_front rest
offset_in_front ls = Some (pos 0, ls)

abbrev pub symbol_and : List ℕ → Option (ℤ × List Lexeme) → Option (Value × List Lexeme)
symbol_and name (Some n) = Some (values.Symbol name n.0, n.1)
symbol_and name None = None

abbrev as_value : Option (ℤ × List Lexeme) → Option (Value × List Lexeme)
as_value (Some n) = Some (values.Number n.0, n.1)
as_value None = None

-- a number, or a symbol plus or minus a number
unfoldable pub value_in_front : List Lexeme → Option (Value × List Lexeme)
value_in_front (Word name ∷ rest) = symbol_and name (offset_in_front rest)
value_in_front ls = as_value (number_in_front ls)

abbrev closes : Value → List Lexeme → Option (Value × List Lexeme)
closes value (Close ∷ rest) = Some (value, rest)
closes value _ = None

abbrev closed : Option (Value × List Lexeme) → Option (Value × List Lexeme)
closed None = None
closed (Some v) = closes v.0 v.1

-- `%lo(` or `%hi(`, a value and `)`
unfoldable pub part_in_front : List ℕ → List Lexeme → Option (Value × List Lexeme)
part_in_front part (Percent ∷ Word name ∷ Open ∷ rest) = if bytes_eq name part then closed (value_in_front rest) else None
part_in_front part _ = None

abbrev low : Option (Value × List Lexeme) → Option (Immediate × List Lexeme)
low (Some v) = Some (immediates.Low v.0, v.1)
low None = None

abbrev as_immediate : Option (ℤ × List Lexeme) → Option (Immediate × List Lexeme)
as_immediate (Some n) = Some (immediates.Number n.0, n.1)
as_immediate None = None

-- a number or `%lo(v)`
unfoldable pub immediate_in_front : List Lexeme → Option (Immediate × List Lexeme)
immediate_in_front (Percent ∷ rest) = low (part_in_front (codes "lo") (Percent ∷ rest))
immediate_in_front ls = as_immediate (number_in_front ls)

-- the item at the front, if nothing follows
abbrev alone_of : {X : Type 0} → X → List Lexeme → Option X
alone_of x [] = Some x
alone_of x (l ∷ ls) = None

abbrev pub only : {X : Type 0} → Option (X × List Lexeme) → Option X
only (Some x) = alone_of x.0 x.1
only None = None

-- one name, without anything after it
unfoldable pub name : List Lexeme → Option (List ℕ)
name (Word w ∷ []) = Some w
name _ = None

unfoldable pub number : List Lexeme → Option ℤ
number ls = only (number_in_front ls)

unfoldable pub value : List Lexeme → Option Value
value ls = only (value_in_front ls)

unfoldable pub immediate : List Lexeme → Option Immediate
immediate ls = only (immediate_in_front ls)

abbrev high : Option Value → Option Upper
high (Some v) = Some (uppers.High v)
high None = None

abbrev as_upper : Option ℤ → Option Upper
as_upper (Some n) = Some (uppers.Number n)
as_upper None = None

-- a number or `%hi(v)`
unfoldable pub upper : List Lexeme → Option Upper
upper (Percent ∷ rest) = high (only (part_in_front (codes "hi") (Percent ∷ rest)))
upper ls = as_upper (number ls)

abbrev as_target : Option ℤ → Option Target
as_target (Some n) = Some (targets.Address n)
as_target None = None

-- a symbol, a local reference, or a number
unfoldable pub target : List Lexeme → Option Target
target (Word name ∷ []) = Some (targets.Symbol name)
target (Back digits ∷ []) = Some (targets.Back digits)
target (Ahead digits ∷ []) = Some (targets.Ahead digits)
target ls = as_target (number ls)

-- `(rs)`, without anything after it
unfoldable pub base : List Lexeme → Option (List ℕ)
base (Open ∷ Word name ∷ Close ∷ []) = Some name
base _ = None

abbrev and_name : Immediate → Option (List ℕ) → Option (Immediate × List ℕ)
and_name immediate (Some name) = Some (immediate, name)
and_name immediate None = None

-- an immediate and `(rs)` after it
unfoldable pub with_base : Immediate → List Lexeme → Option (Immediate × List ℕ)
with_base immediate ls = and_name immediate (base ls)

abbrev based : Option (Immediate × List Lexeme) → Option (Immediate × List ℕ)
based (Some i) = with_base i.0 i.1
based None = None

-- `imm(rs)`, or `(rs)` for `0(rs)`
unfoldable pub memory : List Lexeme → Option (Immediate × List ℕ)
memory (Open ∷ rest) = with_base (immediates.Number (pos 0)) (Open ∷ rest)
memory ls = based (immediate_in_front ls)

abbrev is_zero : ℤ → Bool
is_zero (pos n) = n == 0
is_zero (negsuc n) = false

abbrev zero_at : Immediate → List ℕ → Option (List ℕ)
zero_at (immediates.Number n) name = if is_zero n then Some name else None
zero_at (immediates.Low v) name = None

abbrev at_zero : Option (Immediate × List ℕ) → Option (List ℕ)
at_zero None = None
at_zero (Some m) = zero_at m.0 m.1

-- `(rs)`, or `0(rs)`
unfoldable pub address : List Lexeme → Option (List ℕ)
address ls = at_zero (memory ls)

abbrev known : Option ℕ → Result ℕ FaultKind
known (Some r) = Ok r
known None = Err faults.Register

-- the register with a name, or the fault `Register`
unfoldable pub register_operand : List ℕ → Result ℕ FaultKind
register_operand name = known (register_of name)
