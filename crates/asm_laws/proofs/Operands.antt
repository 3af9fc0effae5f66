-- The registers and sets that the reader gives instructions are in range.
use Rattle.std.proofs.Common.{◌≡◌, ℕ, ◌^◌, ◌<◌, pos, Bool, true, false, cond, List, [], ◌∷◌, Option, Some, None, Result, Ok, Err, IfSome, refl, arith}
use Rattle.std.specs.Prelude.{nat_lt, IfOk, is_some}
use Rattle.std.proofs.lemmas.Bool.{ltb-true}
use Rattle.asm_lex.specs.Lexemes.{Lexeme, Word, Comma}
use Rattle.isa_table.specs.Spells.{InRange}
use Rattle.isa_table.specs.declared.instr.Instr.{Instr}
use Rattle.isa_table.specs.declared.instr.Instr.TheVariants as instrs
use Rattle.asm_statement.specs.declared.fault.FaultKind.{FaultKind}
use Rattle.asm_statement.specs.declared.operand.Immediate.TheVariants as immediates
use Rattle.asm_statement.specs.declared.operand.Value.{Value}
use Rattle.asm_statement.specs.declared.operand.Value.TheVariants as values
use Rattle.asm_statement.specs.declared.statement.Instruction.{Instruction}
use Rattle.asm_statement.specs.declared.statement.Instruction.TheVariants as i
use Rattle.asm_statement.specs.declared.statement.Pseudo.{Pseudo}
use Rattle.asm_statement.specs.declared.statement.Pseudo.TheVariants as pseudos
use Rattle.asm_statement.specs.declared.heads.Operation.{Operation}
use Rattle.asm_statement.specs.declared.heads.Operation.TheVariants as ops
use Rattle.asm_statement.specs.declared.heads.Unary.{Unary}
use Rattle.asm_statement.specs.declared.heads.Unary.TheVariants as unaries
use Rattle.asm_statement.specs.Names.{below, register_number, register_of, fence_bits, fence_set_of}
use Rattle.asm_statement.specs.Shapes.{name_in_front, two_names_in_front, name, number, value, immediate, upper, target, memory, address, register_operand}
use Rattle.asm_statement.specs.Operations.{◌>>-◌, shaped, two_registers, three_registers, register_and, registers_and, register_and_memory, two_with_last, three_with_last, jump, jal, jump_register, jalr, fence_tso, fence, without_operands, unary_instruction, return_instruction, fixed, instruction}
use Rattle.asm_statement.specs.Statements.{load_number, addressed, load_address, call, tail}

-- an instruction that was read has registers; one with nothing left to value is in range
abbrev pub HasRegisters : Instruction → Type 0
HasRegisters (i.Fixed j) = InRange j
HasRegisters (i.Lui rd imm) = rd < 2 ^ 5
HasRegisters (i.Auipc rd imm) = rd < 2 ^ 5
HasRegisters (i.Jal rd target) = rd < 2 ^ 5
HasRegisters (i.Jalr rd rs1 imm) = (rd < 2 ^ 5) × (rs1 < 2 ^ 5)
HasRegisters (i.Branch op rs1 rs2 target) = (rs1 < 2 ^ 5) × (rs2 < 2 ^ 5)
HasRegisters (i.Load op rd rs1 imm) = (rd < 2 ^ 5) × (rs1 < 2 ^ 5)
HasRegisters (i.Store op rs1 rs2 imm) = (rs1 < 2 ^ 5) × (rs2 < 2 ^ 5)
HasRegisters (i.Immediate op rd rs1 imm) = (rd < 2 ^ 5) × (rs1 < 2 ^ 5)
HasRegisters (i.Shift op rd rs1 amount) = (rd < 2 ^ 5) × (rs1 < 2 ^ 5)

abbrev pub PseudoHasRegister : Pseudo → Type 0
PseudoHasRegister (pseudos.Li rd n) = rd < 2 ^ 5
PseudoHasRegister (pseudos.La rd name offset) = rd < 2 ^ 5
PseudoHasRegister (pseudos.Call name) = Unit {0}
PseudoHasRegister (pseudos.Tail name) = Unit {0}

-- ---- steps
below_is : (bound : ℕ) (o : Option ℕ) → IfSome (below bound o) (λ n. n < bound)
below_is bound None = tt
below_is bound (Some n) = by (nat_lt n bound) refl
  where
    by : (b : Bool) → nat_lt n bound ≡ b → IfSome (cond b (Some n) None) (λ n. n < bound)
    by true e = ltb-true n bound e
    by false e = tt

register_below : (name : List ℕ) → IfSome (register_of name) (λ r. r < 2 ^ 5)
unfolding register_of
register_below name = below_is 32 (register_number name)

set_below : (name : List ℕ) → IfSome (fence_set_of name) (λ s. s < 2 ^ 4)
unfolding fence_set_of
set_below name = below_is 16 (fence_bits name)

-- behind a register
pub reg : {Y : Type 0} (name : List ℕ) (next : ℕ → Result Y FaultKind) (Q : Y → Type 0) → ((r : ℕ) → r < 2 ^ 5 → IfOk (next r) Q) → IfOk (register_operand name >>- next) Q
unfolding register_operand
reg {Y} name next Q g = by (register_of name) refl (register_below name)
  where
    by : (o : Option ℕ) → register_of name ≡ o → IfSome o (λ r. r < 2 ^ 5) → IfOk (register_operand name >>- next) Q
    by None e h = rw e tt
    by (Some r) e h = rw e (g r h)

-- behind operands of a shape
pub shape : {X Y : Type 0} (o : Option X) (next : X → Result Y FaultKind) (Q : Y → Type 0) → ((x : X) → IfOk (next x) Q) → IfOk (shaped o next) Q
shape None next Q g = tt
shape (Some x) next Q g = g x

-- behind a result whose value has a property
onto : {X Y : Type 0} (r : Result X FaultKind) (P : X → Type 0) (next : X → Result Y FaultKind) (Q : Y → Type 0) → IfOk r P → ((x : X) → P x → IfOk (next x) Q) → IfOk (r >>- next) Q
onto (Ok x) P next Q h g = g x h
onto (Err fault) P next Q h g = tt

-- ---- operands
abbrev IsOne : {X : Type 0} → ℕ × X → Type 0
IsOne r = r.0 < 2 ^ 5

abbrev AreTwo : ℕ × ℕ → Type 0
AreTwo r = (r.0 < 2 ^ 5) × (r.1 < 2 ^ 5)

abbrev AreThree : ℕ × ℕ × ℕ → Type 0
AreThree r = (r.0 < 2 ^ 5) × (r.1 < 2 ^ 5) × (r.2 < 2 ^ 5)

-- two registers, and another operand
abbrev BeginWithTwo : {X : Type 0} → ℕ × ℕ × X → Type 0
BeginWithTwo r = (r.0 < 2 ^ 5) × (r.1 < 2 ^ 5)

two_in : (a b : List ℕ) → IfOk (two_registers a b) AreTwo
unfolding two_registers
two_in a b = reg a (λ a. register_operand b >>- λ b. Ok (a, b)) AreTwo (λ a g. reg b (λ b. Ok (a, b)) AreTwo (λ b h. (g, h)))

three_in : (a b c : List ℕ) → IfOk (three_registers a b c) AreThree
unfolding three_registers
three_in a b c =
    onto (two_registers a b) AreTwo (λ r. register_operand c >>- λ c. Ok (r.0, r.1, c)) AreThree (two_in a b) (λ r h.
    reg c (λ c. Ok (r.0, r.1, c)) AreThree (λ c g. (h.0, h.1, g)))

one_and : {X : Type 0} (read : List Lexeme → Option X) (ls : List Lexeme) → IfOk (register_and read ls) IsOne
unfolding register_and
one_and {X} read ls =
    shape (name_in_front ls) (λ n. shaped (read n.1) (λ x. register_operand n.0 >>- λ r. Ok (r, x))) IsOne (λ n.
    shape (read n.1) (λ x. register_operand n.0 >>- λ r. Ok (r, x)) IsOne (λ x.
    reg n.0 (λ r. Ok (r, x)) IsOne (λ r h. h)))

two_and : {X : Type 0} (read : List Lexeme → Option X) (ls : List Lexeme) → IfOk (registers_and read ls) BeginWithTwo
unfolding registers_and
two_and {X} read ls =
    shape (two_names_in_front ls) (λ n. shaped (read n.2) (λ x. two_registers n.0 n.1 >>- λ r. Ok (r.0, r.1, x))) BeginWithTwo (λ n.
    shape (read n.2) (λ x. two_registers n.0 n.1 >>- λ r. Ok (r.0, r.1, x)) BeginWithTwo (λ x.
    onto (two_registers n.0 n.1) AreTwo (λ r. Ok (r.0, r.1, x)) BeginWithTwo (two_in n.0 n.1) (λ r h. h)))

memory_and : (ls : List Lexeme) → IfOk (register_and_memory ls) BeginWithTwo
unfolding register_and_memory
memory_and ls =
    shape (name_in_front ls) (λ n. shaped (memory n.1) (λ m. two_registers n.0 m.1 >>- λ r. Ok (r.0, r.1, m.0))) BeginWithTwo (λ n.
    shape (memory n.1) (λ m. two_registers n.0 m.1 >>- λ r. Ok (r.0, r.1, m.0)) BeginWithTwo (λ m.
    onto (two_registers n.0 m.1) AreTwo (λ r. Ok (r.0, r.1, m.0)) BeginWithTwo (two_in n.0 m.1) (λ r h. h)))

two_last : (last : List Lexeme → Option (List ℕ)) (ls : List Lexeme) → IfOk (two_with_last last ls) AreTwo
unfolding two_with_last
two_last last ls =
    shape (name_in_front ls) (λ n. shaped (last n.1) (λ b. two_registers n.0 b)) AreTwo (λ n.
    shape (last n.1) (λ b. two_registers n.0 b) AreTwo (λ b. two_in n.0 b))

three_last : (last : List Lexeme → Option (List ℕ)) (ls : List Lexeme) → IfOk (three_with_last last ls) AreThree
unfolding three_with_last
three_last last ls =
    shape (two_names_in_front ls) (λ n. shaped (last n.2) (λ c. three_registers n.0 n.1 c)) AreThree (λ n.
    shape (last n.2) (λ c. three_registers n.0 n.1 c) AreThree (λ c. three_in n.0 n.1 c))

-- ---- operations
jump_in : (rd : ℕ) (ls : List Lexeme) → rd < 2 ^ 5 → IfOk (jump rd ls) HasRegisters
unfolding jump
jump_in rd ls h = shape (target ls) (λ t. Ok (i.Jal rd t)) HasRegisters (λ t. h)

either : (test : Bool) (r s : Result Instruction FaultKind) → IfOk r HasRegisters → IfOk s HasRegisters → IfOk (cond test r s) HasRegisters
either true r s h g = h
either false r s h g = g

jal_in : (ls : List Lexeme) → IfOk (jal ls) HasRegisters
unfolding jal
jal_in ls =
    either (is_some (name_in_front ls)) (register_and target ls >>- λ o. Ok (i.Jal o.0 o.1)) (jump 1 ls)
    (onto (register_and target ls) IsOne (λ o. Ok (i.Jal o.0 o.1)) HasRegisters (one_and target ls) (λ o h. h))
    (jump_in 1 ls (omega arith))

jump_register_in : (rd : ℕ) (ls : List Lexeme) → rd < 2 ^ 5 → IfOk (jump_register rd ls) HasRegisters
unfolding jump_register
jump_register_in rd ls h =
    shape (name ls) (λ rs1. register_operand rs1 >>- λ rs1. Ok (i.Jalr rd rs1 (immediates.Number (pos 0)))) HasRegisters (λ rs1.
    reg rs1 (λ rs1. Ok (i.Jalr rd rs1 (immediates.Number (pos 0)))) HasRegisters (λ rs1 a. (h, a)))

jalr_in : (ls : List Lexeme) → IfOk (jalr ls) HasRegisters
unfolding jalr
jalr_in ls =
    either (is_some (two_names_in_front ls)) (registers_and immediate ls >>- λ o. Ok (i.Jalr o.0 o.1 o.2)) behind
    (onto (registers_and immediate ls) BeginWithTwo (λ o. Ok (i.Jalr o.0 o.1 o.2)) HasRegisters (two_and immediate ls) (λ o h. h))
    (either (is_some (name_in_front ls)) (register_and_memory ls >>- λ o. Ok (i.Jalr o.0 o.1 o.2)) (jump_register 1 ls)
    (onto (register_and_memory ls) BeginWithTwo (λ o. Ok (i.Jalr o.0 o.1 o.2)) HasRegisters (memory_and ls) (λ o h. h))
    (jump_register_in 1 ls (omega arith)))
  where
    behind : Result Instruction FaultKind
    behind = cond (is_some (name_in_front ls)) (register_and_memory ls >>- λ o. Ok (i.Jalr o.0 o.1 o.2)) (jump_register 1 ls)

fence_in : (ls : List Lexeme) → IfOk (fence ls) InRange
unfolding fence
fence_in [] = (omega arith, omega arith, omega arith, omega arith, omega arith)
fence_in (Word pred ∷ Comma ∷ Word succ ∷ []) = by (fence_set_of pred) (fence_set_of succ) refl refl (set_below pred) (set_below succ)
  where
    by : (o p : Option ℕ) → fence_set_of pred ≡ o → fence_set_of succ ≡ p → IfSome o (λ s. s < 2 ^ 4) → IfSome p (λ s. s < 2 ^ 4) → IfOk (fence (Word pred ∷ Comma ∷ Word succ ∷ [])) InRange
    by None p e f g h = rw e tt
    by (Some a) None e f g h = rw (e, f) tt
    by (Some a) (Some b) e f g h = rw (e, f) (omega arith, g, h, omega arith, omega arith)
fence_in _ = tt

alone_in : {X : Type 0} (x : X) (ls : List Lexeme) (P : X → Type 0) → P x → IfOk (without_operands x ls) P
unfolding without_operands
alone_in x [] P h = h
alone_in x (l ∷ ls) P h = tt

unary_has : (op : Unary) (rd rs : ℕ) → rd < 2 ^ 5 → rs < 2 ^ 5 → HasRegisters (unary_instruction op rd rs)
unary_has unaries.Move rd rs a b = (a, b)
unary_has unaries.Not rd rs a b = (a, b)
unary_has unaries.Negate rd rs a b = (a, omega arith, b)
unary_has unaries.IsZero rd rs a b = (a, b)
unary_has unaries.IsNotZero rd rs a b = (a, omega arith, b)
unary_has unaries.IsNegative rd rs a b = (a, b, omega arith)
unary_has unaries.IsPositive rd rs a b = (a, omega arith, b)

fixed_in : (op : Operation) (ls : List Lexeme) → IfOk (fixed op ls) InRange
unfolding fixed
fixed_in (ops.Register op) ls = onto (three_with_last name ls) AreThree (λ r. Ok (instrs.Register op r.0 r.1 r.2)) InRange (three_last name ls) (λ r h. h)
fixed_in ops.Fence ls = fence_in ls
fixed_in ops.FenceTso ls = alone_in fence_tso ls InRange (omega arith, omega arith, omega arith, omega arith, omega arith)
fixed_in ops.Ebreak ls = alone_in instrs.Ebreak ls InRange tt
fixed_in (ops.LoadReserved order) ls =
    onto (two_with_last address ls) AreTwo (λ r. Ok (instrs.LoadReserved order.aq order.rl r.0 r.1)) InRange (two_last address ls) (λ r h. h)
fixed_in (ops.StoreConditional order) ls =
    onto (three_with_last address ls) AreThree (λ r. Ok (instrs.StoreConditional order.aq order.rl r.0 r.2 r.1)) InRange (three_last address ls) (λ r h. (h.0, h.2, h.1))
fixed_in (ops.Amo op order) ls =
    onto (three_with_last address ls) AreThree (λ r. Ok (instrs.Amo op order.aq order.rl r.0 r.2 r.1)) InRange (three_last address ls) (λ r h. (h.0, h.2, h.1))
fixed_in _ ls = alone_in instrs.Ecall ls InRange tt

-- an operation with nothing left to value
as_fixed_in : (op : Operation) (ls : List Lexeme) (r : Result Instr FaultKind) → fixed op ls ≡ r → IfOk r InRange → (whole : Result Instruction FaultKind)
    → ((j : Instr) → fixed op ls ≡ Ok j → whole ≡ Ok (i.Fixed j)) → ((f : FaultKind) → fixed op ls ≡ Err f → whole ≡ Err f) → IfOk whole HasRegisters
as_fixed_in op ls (Ok j) e h whole ok err = rw (ok j e) h
as_fixed_in op ls (Err f) e h whole ok err = rw (err f e) tt

fixed_all : (op : Operation) (ls : List Lexeme) → ((j : Instr) → fixed op ls ≡ Ok j → instruction op ls ≡ Ok (i.Fixed j))
    → ((f : FaultKind) → fixed op ls ≡ Err f → instruction op ls ≡ Err f) → IfOk (instruction op ls) HasRegisters
fixed_all op ls ok err = as_fixed_in op ls (fixed op ls) refl (fixed_in op ls) (instruction op ls) ok err

pub instruction_in : (op : Operation) (ls : List Lexeme) → IfOk (instruction op ls) HasRegisters
unfolding instruction
instruction_in ops.Lui ls = onto (register_and upper ls) IsOne (λ o. Ok (i.Lui o.0 o.1)) HasRegisters (one_and upper ls) (λ o h. h)
instruction_in ops.Auipc ls = onto (register_and upper ls) IsOne (λ o. Ok (i.Auipc o.0 o.1)) HasRegisters (one_and upper ls) (λ o h. h)
instruction_in ops.Jal ls = jal_in ls
instruction_in ops.Jalr ls = jalr_in ls
instruction_in (ops.Branch op) ls = onto (registers_and target ls) BeginWithTwo (λ o. Ok (i.Branch op o.0 o.1 o.2)) HasRegisters (two_and target ls) (λ o h. h)
instruction_in (ops.Load op) ls = onto (register_and_memory ls) BeginWithTwo (λ o. Ok (i.Load op o.0 o.1 o.2)) HasRegisters (memory_and ls) (λ o h. h)
instruction_in (ops.Store op) ls = onto (register_and_memory ls) BeginWithTwo (λ o. Ok (i.Store op o.1 o.0 o.2)) HasRegisters (memory_and ls) (λ o h. (h.1, h.0))
instruction_in (ops.Immediate op) ls = onto (registers_and immediate ls) BeginWithTwo (λ o. Ok (i.Immediate op o.0 o.1 o.2)) HasRegisters (two_and immediate ls) (λ o h. h)
instruction_in (ops.Shift op) ls = onto (registers_and number ls) BeginWithTwo (λ o. Ok (i.Shift op o.0 o.1 o.2)) HasRegisters (two_and number ls) (λ o h. h)
instruction_in ops.Nop ls = alone_in (unary_instruction unaries.Move 0 0) ls HasRegisters (omega arith, omega arith)
instruction_in ops.Ret ls = alone_in return_instruction ls HasRegisters (omega arith, omega arith)
instruction_in (ops.Unary op) ls = onto (two_with_last name ls) AreTwo (λ r. Ok (unary_instruction op r.0 r.1)) HasRegisters (two_last name ls) (λ r h. unary_has op r.0 r.1 h.0 h.1)
instruction_in (ops.BranchZero op) ls = onto (register_and target ls) IsOne (λ o. Ok (i.Branch op o.0 0 o.1)) HasRegisters (one_and target ls) (λ o h. (h, omega arith))
instruction_in (ops.ZeroBranch op) ls = onto (register_and target ls) IsOne (λ o. Ok (i.Branch op 0 o.0 o.1)) HasRegisters (one_and target ls) (λ o h. (omega arith, h))
instruction_in (ops.SwappedBranch op) ls = onto (registers_and target ls) BeginWithTwo (λ o. Ok (i.Branch op o.1 o.0 o.2)) HasRegisters (two_and target ls) (λ o h. (h.1, h.0))
instruction_in ops.Jump ls = jump_in 0 ls (omega arith)
instruction_in ops.JumpRegister ls = jump_register_in 0 ls (omega arith)
instruction_in op ls = fixed_all op ls (λ j e. rw e refl) (λ f e. rw e refl)

-- ---- pseudo-instructions
pub li_in : (ls : List Lexeme) → IfOk (load_number ls) PseudoHasRegister
unfolding load_number
li_in ls = onto (register_and number ls) IsOne (λ o. Ok (pseudos.Li o.0 o.1)) PseudoHasRegister (one_and number ls) (λ o h. h)

-- `rd, ` and a value
addressed_in : (rd : List ℕ) (o : Option Value) → IfOk (addressed rd o) PseudoHasRegister
addressed_in rd (Some (values.Symbol name offset)) = reg rd (λ rd. Ok (pseudos.La rd name offset)) PseudoHasRegister (λ rd a. a)
addressed_in rd (Some (values.Number n)) = tt
addressed_in rd None = tt

pub la_in : (ls : List Lexeme) → IfOk (load_address ls) PseudoHasRegister
unfolding load_address
la_in ls = shape (name_in_front ls) (λ n. addressed n.0 (value n.1)) PseudoHasRegister (λ n. addressed_in n.0 (value n.1))

pub call_in : (ls : List Lexeme) → IfOk (call ls) PseudoHasRegister
unfolding call
call_in ls = shape (name ls) (λ name. Ok (pseudos.Call name)) PseudoHasRegister (λ name. tt)

pub tail_in : (ls : List Lexeme) → IfOk (tail ls) PseudoHasRegister
unfolding tail
tail_in ls = shape (name ls) (λ name. Ok (pseudos.Tail name)) PseudoHasRegister (λ name. tt)
