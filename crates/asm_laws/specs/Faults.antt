-- Which fault statements have if they have no program: the first phase with a fault counts, in it
-- the first statement with one, and of its faults the lowest number. `asm_assemble` says how it is
-- computed; the law of src/faults.rt says that both are the same.
use Rattle.std.specs.Prelude.{◌≡◌, ℕ, ◌+◌, ◌%◌, ◌^◌, ◌<◌, ◌≤◌, ◌⊎◌, ℤ, nat_lt, Bool, true, false, List, [], ◌∷◌, ◌++◌, length, map, None}
use Rattle.std.specs.List.{flat_map, list_any}
use Rattle.std.specs.Str.{bytes_eq}
use Rattle.asm_statement.specs.Fault.{source_fault_number}
use Rattle.asm_statement.specs.Statement.{StatementValue, BodyValue}
use Rattle.asm_statement.specs.Statements.{is_zeros}
use Rattle.asm_statement.specs.declared.fault.Fault.{Fault}
use Rattle.asm_statement.specs.declared.fault.FaultKind.{FaultKind}
use Rattle.asm_statement.specs.declared.fault.FaultKind.TheVariants as kinds
use Rattle.asm_statement.specs.declared.operand.Value.{Value}
use Rattle.asm_statement.specs.declared.operand.Value.TheVariants as values
use Rattle.asm_statement.specs.declared.operand.Immediate.{Immediate}
use Rattle.asm_statement.specs.declared.operand.Immediate.TheVariants as immediates
use Rattle.asm_statement.specs.declared.operand.Upper.{Upper}
use Rattle.asm_statement.specs.declared.operand.Upper.TheVariants as uppers
use Rattle.asm_statement.specs.declared.operand.Target.{Target}
use Rattle.asm_statement.specs.declared.statement.Section.TheVariants as sections
use Rattle.asm_statement.specs.declared.statement.Body.TheVariants as body
use Rattle.asm_statement.specs.declared.statement.Directive.TheVariants as directive
use Rattle.asm_statement.specs.declared.statement.Pseudo.TheVariants as pseudo
use Rattle.asm_statement.specs.declared.statement.Instruction.{Instruction}
use Rattle.asm_statement.specs.declared.statement.Instruction.TheVariants as read
use Rattle.asm_assemble.specs.Program.{SymbolList, segment_size}
use Rattle.asm_assemble.specs.Numbers.{is_in_range}
use Rattle.asm_assemble.specs.Operands.{operand_address}
use Rattle.asm_assemble.specs.Cursors.{size}
use Rattle.asm_assemble.specs.Placed.{Standing, Bases, AreStanding, taken, placed_symbols_in, IsTarget, IsOffset}

-- ---- faults of placing
-- whether a statement is a label with this name
abbrev pub is_label_of : List ℕ → BodyValue → Bool
is_label_of name (body.Label other) = bytes_eq name other
is_label_of name b = false

-- a label whose name a statement before it has
abbrev pub IsSecond : List Standing → BodyValue → Type 0
IsSecond before (body.Label name) = list_any (λ s. is_label_of name s.statement.body) before ≡ true
IsSecond before b = ⊥

-- an instruction at no multiple of 4, or an alignment above 2^12
abbrev pub IsMisaligned : ℕ → BodyValue → Type 0
IsMisaligned at (body.Instruction i) = 0 < at % 4
IsMisaligned at (body.Pseudo p) = 0 < at % 4
IsMisaligned at (body.Directive (directive.Align n)) = 12 < n
IsMisaligned at b = ⊥

-- whether a statement takes bytes
abbrev pub takes_bytes : Standing → Bool
takes_bytes s = nat_lt 0 (size s.address s.statement.body)

-- text and data segment have more than 2^24 bytes together; the statement is the last with bytes
pub record IsOverLimit (all : List Standing) (s : Standing) (after : List Standing) : Type 0 where
  pub over : 2 ^ 24 < taken sections.Text all + segment_size (taken sections.Data all) (taken sections.Zeros all)
  pub has_bytes : takes_bytes s ≡ true
  pub last : list_any takes_bytes after ≡ false

-- a statement, among all, has this fault of placing
abbrev pub IsMisplaced : List Standing → FaultKind → List Standing → Standing → List Standing → Type 0
IsMisplaced all kinds.Twice before s after = IsSecond before s.statement.body
IsMisplaced all kinds.Align before s after = IsMisaligned s.address s.statement.body
IsMisplaced all kinds.TooLarge before s after = IsOverLimit all s after
IsMisplaced all kind before s after = ⊥

-- ---- faults of operands
-- an operand: a number from -low to high - 1, a symbol, or a target that an offset of this many
-- bits reaches
pub data Operand : Type 0 where
  Ranged : ℕ → ℕ → ℤ → Operand
  Named : List ℕ → Operand
  Reached : ℕ → Target → Operand

-- the symbol of a value whose numbers may be any
abbrev pub symbol_operands : Value → List Operand
symbol_operands (values.Number n) = []
symbol_operands (values.Symbol name offset) = Named name ∷ []

-- a value of `.word`
abbrev pub word_operands : Value → List Operand
word_operands (values.Number n) = Ranged (2 ^ 31) (2 ^ 32) n ∷ []
word_operands (values.Symbol name offset) = Named name ∷ []

-- a 12-bit immediate
abbrev pub immediate_operands : Immediate → List Operand
immediate_operands (immediates.Number n) = Ranged (2 ^ 11) (2 ^ 11) n ∷ []
immediate_operands (immediates.Low v) = symbol_operands v

-- a 20-bit immediate
abbrev pub upper_operands : Upper → List Operand
upper_operands (uppers.Number n) = Ranged 0 (2 ^ 20) n ∷ []
upper_operands (uppers.High v) = symbol_operands v

-- the operands of an instruction, without registers
abbrev pub instruction_operands : Instruction → List Operand
instruction_operands (read.Fixed i) = []
instruction_operands (read.Lui rd imm) = upper_operands imm
instruction_operands (read.Auipc rd imm) = upper_operands imm
instruction_operands (read.Jal rd target) = Reached 21 target ∷ []
instruction_operands (read.Jalr rd rs1 imm) = immediate_operands imm
instruction_operands (read.Branch op rs1 rs2 target) = Reached 13 target ∷ []
instruction_operands (read.Load op rd rs1 imm) = immediate_operands imm
instruction_operands (read.Store op rs1 rs2 imm) = immediate_operands imm
instruction_operands (read.Immediate op rd rs1 imm) = immediate_operands imm
instruction_operands (read.Shift op rd rs1 amount) = Ranged 0 (2 ^ 5) amount ∷ []

-- the operands of a statement, without registers
abbrev pub operands_of : BodyValue → List Operand
operands_of (body.Instruction i) = instruction_operands i
operands_of (body.Pseudo (pseudo.Li rd number)) = Ranged (2 ^ 31) (2 ^ 64) number ∷ []
operands_of (body.Pseudo (pseudo.La rd name offset)) = Named name ∷ []
operands_of (body.Pseudo (pseudo.Call name)) = Named name ∷ []
operands_of (body.Pseudo (pseudo.Tail name)) = Named name ∷ []
operands_of (body.Directive (directive.Words vs)) = flat_map word_operands vs
operands_of (body.Directive (directive.Halves ns)) = map (λ n. Ranged (2 ^ 15) (2 ^ 16) n) ns
operands_of (body.Directive (directive.Bytes ns)) = map (λ n. Ranged (2 ^ 7) (2 ^ 8) n) ns
operands_of b = []

-- an operand of a statement has this fault: its number is out of range, its symbol isn't defined,
-- its target isn't there, or no offset reaches the target
abbrev pub IsWrong : SymbolList → List Standing → Standing → List Standing → FaultKind → Operand → Type 0
IsWrong symbols before s after kinds.Range (Ranged low high n) = is_in_range low high n ≡ false
IsWrong symbols before s after kinds.Undefined (Named name) = operand_address symbols name ≡ None
IsWrong symbols before s after kinds.Undefined (Reached width target) =
    (to : ℕ) → IsTarget symbols before s.statement.source after target to → ⊥
IsWrong symbols before s after kinds.BranchRange (Reached width target) =
    (to : ℕ) × IsTarget symbols before s.statement.source after target to
    × ((offset : ℕ) → IsOffset width symbols before s after target offset → ⊥)
IsWrong symbols before s after kind operand = ⊥

-- one of the operands is so
abbrev pub AnyOperand : (Operand → Type 0) → List Operand → Type 0
AnyOperand P [] = ⊥
AnyOperand P (o ∷ os) = P o ⊎ AnyOperand P os

-- a statement has this fault of an operand, by the symbols; operands in `.bss` get no values
abbrev pub IsMisvalued : SymbolList → FaultKind → List Standing → Standing → List Standing → Type 0
IsMisvalued symbols kind before s after =
    (is_zeros s.section ≡ false) × AnyOperand (IsWrong symbols before s after kind) (operands_of s.statement.body)

-- ---- the fault that counts
-- no statement has a fault of these
abbrev pub HasNoFault : (FaultKind → List Standing → Standing → List Standing → Type 0) → List Standing → Type 0
HasNoFault Has all =
    (before : List Standing) (s : Standing) (after : List Standing) (kind : FaultKind)
    → all ≡ before ++ s ∷ after → Has kind before s after → ⊥

-- the fault is the lowest of the first statement that has one of these
pub record IsFirstFault (Has : FaultKind → List Standing → Standing → List Standing → Type 0)
    (all : List Standing) (fault : Fault) : Type 0 where
  pub before : List Standing
  pub here : Standing
  pub after : List Standing
  pub cut : all ≡ before ++ here ∷ after
  pub has : Has fault.kind before here after
  pub lowest : (kind : FaultKind) → Has kind before here after → source_fault_number fault.kind ≤ source_fault_number kind
  pub first : (front : List Standing) (s : Standing) (back : List Standing) (kind : FaultKind)
      → all ≡ front ++ s ∷ back → length front < length before → Has kind front s back → ⊥
  pub in_source : fault.source ≡ here.statement.source
  pub on_its_line : fault.line ≡ here.statement.line

-- the first fault of placing; if there is none, the first of operands
abbrev pub IsOfFirstPhase : List Standing → Fault → Type 0
IsOfFirstPhase all fault =
    IsFirstFault (IsMisplaced all) all fault
    ⊎ (HasNoFault (IsMisplaced all) all × IsFirstFault (IsMisvalued (placed_symbols_in all all)) all fault)

-- the fault of statements, each at its place
pub record HasFirstFault (ss : List StatementValue) (fault : Fault) : Type 0 where
  pub all : List Standing
  pub bases : Bases
  pub standing : AreStanding ss all bases
  pub counts : IsOfFirstPhase all fault
