-- The faults of a part of a text as it is read, each by itself. The part's answer is the one with the
-- lowest number. `asm_statement` says in which order they are looked for; the law of
-- src/part_faults.rt says that both are the same.
use Rattle.std.specs.Prelude.{◌≡◌, ℕ, ◌≤◌, ◌⊎◌, Bool, true, false, List, [], ◌∷◌, Option, Some, None, Result, Ok, Err, is_some, if◌then◌else◌}
use Rattle.std.specs.List.{list_all}
use Rattle.asm_lex.specs.Lexemes.{Lexeme, Word}
use Rattle.asm_statement.specs.declared.fault.FaultKind.{FaultKind}
use Rattle.asm_statement.specs.declared.fault.FaultKind.TheVariants as kinds
use Rattle.asm_statement.specs.declared.heads.Head.{Head}
use Rattle.asm_statement.specs.declared.heads.Head.TheVariants as heads
use Rattle.asm_statement.specs.declared.heads.Operation.{Operation}
use Rattle.asm_statement.specs.declared.heads.Operation.TheVariants as ops
use Rattle.asm_statement.specs.declared.operand.Value.{Value}
use Rattle.asm_statement.specs.declared.operand.Value.TheVariants as values
use Rattle.asm_statement.specs.declared.statement.Section.{Section}
use Rattle.asm_statement.specs.Directives.{directive}
use Rattle.asm_statement.specs.Fault.{source_fault_number}
use Rattle.asm_statement.specs.Heads.{head_of}
use Rattle.asm_statement.specs.Names.{register_of}
use Rattle.asm_statement.specs.Operations.{fence}
use Rattle.asm_statement.specs.Shapes.{name_in_front, two_names_in_front, name, number, value, immediate, upper, target, memory, address}
use Rattle.asm_statement.specs.Statements.{is_zeros, unknown}
use Rattle.asm_laws.specs.Reads.{Part, labelled}

-- ---- shapes of operands
-- the names in the places of registers, where operands have the right shape; none where they don't
abbrev pub Places : Type 0
Places = Option (List (List ℕ))

-- the places behind a part of the operands, if that has its shape
abbrev pub shape_then : {X : Type 0} → Option X → (X → Places) → Places
shape_then (Some x) places = places x
shape_then None places = None

-- the same where only the shape counts
abbrev pub fits_then : {X E : Type 0} → Result X E → List (List ℕ) → Places
fits_then (Ok x) names = Some names
fits_then (Err fault) names = None

-- no operands
abbrev pub no_operands : List Lexeme → Places
no_operands [] = Some []
no_operands (l ∷ ls) = None

-- `r, ` and an operand of this shape
abbrev pub one_and : {X : Type 0} → (List Lexeme → Option X) → List Lexeme → Places
one_and read ls = shape_then (name_in_front ls) (λ n. shape_then (read n.1) (λ x. Some (n.0 ∷ [])))

-- `r, s, ` and an operand of this shape
abbrev pub two_and : {X : Type 0} → (List Lexeme → Option X) → List Lexeme → Places
two_and read ls = shape_then (two_names_in_front ls) (λ n. shape_then (read n.2) (λ x. Some (n.0 ∷ n.1 ∷ [])))

-- `r, imm(s)`
abbrev pub one_and_memory : List Lexeme → Places
one_and_memory ls = shape_then (name_in_front ls) (λ n. shape_then (memory n.1) (λ m. Some (n.0 ∷ m.1 ∷ [])))

-- `r, ` and a last register in this shape
abbrev pub one_and_last : (List Lexeme → Option (List ℕ)) → List Lexeme → Places
one_and_last last ls = shape_then (name_in_front ls) (λ n. shape_then (last n.1) (λ b. Some (n.0 ∷ b ∷ [])))

-- `r, s, ` and a last register in this shape
abbrev pub two_and_last : (List Lexeme → Option (List ℕ)) → List Lexeme → Places
two_and_last last ls = shape_then (two_names_in_front ls) (λ n. shape_then (last n.2) (λ c. Some (n.0 ∷ n.1 ∷ c ∷ [])))

-- a target alone, and a register alone
abbrev pub target_alone : List Lexeme → Places
target_alone ls = shape_then (target ls) (λ t. Some [])

abbrev pub register_alone : List Lexeme → Places
register_alone ls = shape_then (name ls) (λ r. Some (r ∷ []))

-- `r, x`, x a symbol plus or minus a number
abbrev pub symbol_behind : List ℕ → Option Value → Places
symbol_behind r (Some (values.Symbol x offset)) = Some (r ∷ [])
symbol_behind r _ = None

-- the operands of an operation
abbrev pub operation_places : Operation → List Lexeme → Places
operation_places ops.Lui ls = one_and upper ls
operation_places ops.Auipc ls = one_and upper ls
operation_places ops.Jal ls = if is_some (name_in_front ls) then one_and target ls else target_alone ls
operation_places ops.Jalr ls =
    if is_some (two_names_in_front ls) then two_and immediate ls
    else (if is_some (name_in_front ls) then one_and_memory ls else register_alone ls)
operation_places (ops.Branch op) ls = two_and target ls
operation_places (ops.Load op) ls = one_and_memory ls
operation_places (ops.Store op) ls = one_and_memory ls
operation_places (ops.Immediate op) ls = two_and immediate ls
operation_places (ops.Shift op) ls = two_and number ls
operation_places (ops.Unary op) ls = one_and_last name ls
operation_places (ops.BranchZero op) ls = one_and target ls
operation_places (ops.ZeroBranch op) ls = one_and target ls
operation_places (ops.SwappedBranch op) ls = two_and target ls
operation_places ops.Jump ls = target_alone ls
operation_places ops.JumpRegister ls = register_alone ls
operation_places (ops.Register op) ls = two_and_last name ls
operation_places ops.Fence ls = fits_then (fence ls) []
operation_places (ops.LoadReserved order) ls = one_and_last address ls
operation_places (ops.StoreConditional order) ls = two_and_last address ls
operation_places (ops.Amo op order) ls = two_and_last address ls
operation_places _ ls = no_operands ls

-- the operands of a statement by its first name
abbrev pub places : Head → List Lexeme → Places
places (heads.Operation operation) ls = operation_places operation ls
places heads.Li ls = one_and number ls
places heads.La ls = shape_then (name_in_front ls) (λ n. symbol_behind n.0 (value n.1))
places heads.Call ls = shape_then (name ls) (λ x. Some [])
places heads.Tail ls = shape_then (name ls) (λ x. Some [])
places head ls = fits_then (directive head ls) []

-- ---- faults
abbrev pub is_register : List ℕ → Bool
is_register name = is_some (register_of name)

-- a name in a register's place is none of a register
abbrev pub HasNoRegister : Places → Type 0
HasNoRegister None = ⊥
HasNoRegister (Some names) = list_all is_register names ≡ false

-- whether a first name is of instructions or bytes, which `.bss` doesn't take
abbrev pub is_of_bytes : Head → Bool
is_of_bytes (heads.Operation operation) = true
is_of_bytes heads.Li = true
is_of_bytes heads.La = true
is_of_bytes heads.Call = true
is_of_bytes heads.Tail = true
is_of_bytes heads.Words = true
is_of_bytes heads.Halves = true
is_of_bytes heads.Bytes = true
is_of_bytes (heads.Ascii ended) = true
is_of_bytes _ = false

-- a statement with a known first name has this fault: its operands have another shape, a register's
-- place has another name, or it stands in `.bss`, which doesn't take it
abbrev pub HeadHas : Section → Head → List Lexeme → FaultKind → Type 0
HeadHas section head ls kind =
    ((kind ≡ kinds.Operands) × (places head ls ≡ None))
    ⊎ ((kind ≡ kinds.Register) × HasNoRegister (places head ls))
    ⊎ ((kind ≡ kinds.Directive) × (is_zeros section ≡ true) × (is_of_bytes head ≡ true))

-- an unknown first name is a fault by itself
abbrev pub NameHas : Section → Option Head → List ℕ → List Lexeme → FaultKind → Type 0
NameHas section (Some head) name ls kind = HeadHas section head ls kind
NameHas section None name ls kind = kind ≡ unknown name

-- lexemes behind labels have this fault: no name is first, or the name's
abbrev pub BodyHas : Section → List Lexeme → FaultKind → Type 0
BodyHas section [] kind = ⊥
BodyHas section (Word name ∷ ls) kind = NameHas section (head_of name) name ls kind
BodyHas section (l ∷ ls) kind = kind ≡ kinds.Mnemonic

-- a part has this fault: a token in it is wrong, or what is behind its labels has it
abbrev pub PartHas : Bool → Section → Part → FaultKind → Type 0
PartHas broken section p kind =
    ((kind ≡ kinds.Token) × (broken ≡ true)) ⊎ BodyHas section (labelled p.lexemes).1 kind

-- the fault with the lowest number
pub record IsLowest (Has : FaultKind → Type 0) (kind : FaultKind) : Type 0 where
  pub has : Has kind
  pub lowest : (other : FaultKind) → Has other → source_fault_number kind ≤ source_fault_number other
