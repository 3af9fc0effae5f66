-- Instructions with their operands. A wrong shape comes before a name that is no register.
use Rattle.std.specs.Prelude.{ℕ, pos, negsuc, List, [], ◌∷◌, Option, Some, None, Result, Ok, Err, is_some, if◌then◌else◌}
use Rattle.asm_lex.specs.Lexemes.{Lexeme, Word, Comma}
use Rattle.isa_table.specs.declared.mnemonic.RegisterOp.{RegisterOp}
use Rattle.isa_table.specs.declared.mnemonic.ImmediateOp.TheVariants.{Addi, Xori, Sltiu}
use Rattle.isa_table.specs.declared.mnemonic.RegisterOp.TheVariants.{Sub, Sltu, Slt}
use Rattle.isa_table.specs.declared.instr.Instr.{Instr}
use Rattle.isa_table.specs.declared.instr.Instr.TheVariants as instrs
use Rattle.asm_statement.specs.declared.fault.FaultKind.{FaultKind}
use Rattle.asm_statement.specs.declared.fault.FaultKind.TheVariants as faults
use Rattle.asm_statement.specs.declared.operand.Immediate.{Immediate}
use Rattle.asm_statement.specs.declared.operand.Immediate.TheVariants as immediates
use Rattle.asm_statement.specs.declared.statement.Instruction.{Instruction}
use Rattle.asm_statement.specs.declared.statement.Instruction.TheVariants as i
use Rattle.asm_statement.specs.declared.heads.Operation.{Operation}
use Rattle.asm_statement.specs.declared.heads.Operation.TheVariants as ops
use Rattle.asm_statement.specs.declared.heads.Unary.{Unary}
use Rattle.asm_statement.specs.declared.heads.Unary.TheVariants as unaries
use Rattle.asm_statement.specs.Names.{fence_set_of}
use Rattle.asm_statement.specs.Shapes.{name, name_in_front, two_names_in_front, number, immediate, upper, target, memory, address, register_operand}

infixl 10 ◌>>-◌
abbrev pub ◌>>-◌ : {X Y : Type 0} → Result X FaultKind → (X → Result Y FaultKind) → Result Y FaultKind
(Ok x) >>- next = next x
(Err fault) >>- next = Err fault

-- the result for operands of a shape, or the fault of a wrong shape
abbrev pub shaped : {X Y : Type 0} → Option X → (X → Result Y FaultKind) → Result Y FaultKind
shaped (Some x) next = next x
shaped None next = Err faults.Operands

-- the registers with two names
unfoldable pub two_registers : List ℕ → List ℕ → Result (ℕ × ℕ) FaultKind
two_registers a b = register_operand a >>- λ a. register_operand b >>- λ b. Ok (a, b)

-- the registers with three names
unfoldable pub three_registers : List ℕ → List ℕ → List ℕ → Result (ℕ × ℕ × ℕ) FaultKind
three_registers a b c = two_registers a b >>- λ r. register_operand c >>- λ c. Ok (r.0, r.1, c)

-- `r, ` and an operand of this shape
unfoldable pub register_and : {X : Type 0} → (List Lexeme → Option X) → List Lexeme → Result (ℕ × X) FaultKind
register_and read ls = shaped (name_in_front ls) (λ n. shaped (read n.1) (λ x. register_operand n.0 >>- λ r. Ok (r, x)))

-- `r, s, ` and an operand of this shape
unfoldable pub registers_and : {X : Type 0} → (List Lexeme → Option X) → List Lexeme → Result (ℕ × ℕ × X) FaultKind
registers_and read ls = shaped (two_names_in_front ls) (λ n. shaped (read n.2) (λ x. two_registers n.0 n.1 >>- λ r. Ok (r.0, r.1, x)))

-- `r, imm(s)`
unfoldable pub register_and_memory : List Lexeme → Result (ℕ × ℕ × Immediate) FaultKind
register_and_memory ls = shaped (name_in_front ls) (λ n. shaped (memory n.1) (λ m. two_registers n.0 m.1 >>- λ r. Ok (r.0, r.1, m.0)))

-- `r, ` and a last register in this shape
unfoldable pub two_with_last : (List Lexeme → Option (List ℕ)) → List Lexeme → Result (ℕ × ℕ) FaultKind
two_with_last last ls = shaped (name_in_front ls) (λ n. shaped (last n.1) (λ b. two_registers n.0 b))

-- `r, s, ` and a last register in this shape
unfoldable pub three_with_last : (List Lexeme → Option (List ℕ)) → List Lexeme → Result (ℕ × ℕ × ℕ) FaultKind
three_with_last last ls = shaped (two_names_in_front ls) (λ n. shaped (last n.2) (λ c. three_registers n.0 n.1 c))

-- `target`, with this link register
unfoldable pub jump : ℕ → List Lexeme → Result Instruction FaultKind
jump rd ls = shaped (target ls) (λ t. Ok (i.Jal rd t))

-- `rd, target`, or `target` with ra
unfoldable pub jal : List Lexeme → Result Instruction FaultKind
jal ls =
    if is_some (name_in_front ls) then (register_and target ls >>- λ o. Ok (i.Jal o.0 o.1))
    else jump 1 ls

-- `rs`, with this link register
unfoldable pub jump_register : ℕ → List Lexeme → Result Instruction FaultKind
jump_register rd ls = shaped (name ls) (λ rs1. register_operand rs1 >>- λ rs1. Ok (i.Jalr rd rs1 (immediates.Number (pos 0))))

-- `rd, rs1, imm` or `rd, imm(rs1)`, or `rs1` with ra
unfoldable pub jalr : List Lexeme → Result Instruction FaultKind
jalr ls =
    if is_some (two_names_in_front ls) then (registers_and immediate ls >>- λ o. Ok (i.Jalr o.0 o.1 o.2))
    else (if is_some (name_in_front ls) then (register_and_memory ls >>- λ o. Ok (i.Jalr o.0 o.1 o.2))
    else jump_register 1 ls)

-- FENCE of two sets
abbrev pub plain_fence : ℕ → ℕ → Instr
plain_fence pred succ = instrs.Fence 0 pred succ 0 0

-- FENCE.TSO: reads and writes, with fm 8
abbrev pub fence_tso : Instr
fence_tso = instrs.Fence 8 3 3 0 0

abbrev fence_sets : Option ℕ → Option ℕ → Result Instr FaultKind
fence_sets (Some pred) (Some succ) = Ok (plain_fence pred succ)
fence_sets _ _ = Err faults.Operands

-- two sets of accesses, or no operands for all
unfoldable pub fence : List Lexeme → Result Instr FaultKind
fence [] = Ok (plain_fence 15 15)
fence (Word pred ∷ Comma ∷ Word succ ∷ []) = fence_sets (fence_set_of pred) (fence_set_of succ)
fence _ = Err faults.Operands

-- what has no operands
unfoldable pub without_operands : {X : Type 0} → X → List Lexeme → Result X FaultKind
without_operands x [] = Ok x
without_operands x (l ∷ ls) = Err faults.Operands

abbrev pub register_instruction : RegisterOp → ℕ → ℕ → ℕ → Instruction
register_instruction op rd rs1 rs2 = i.Fixed (instrs.Register op rd rs1 rs2)

-- the instruction of a pseudo-instruction with two registers
abbrev pub unary_instruction : Unary → ℕ → ℕ → Instruction
unary_instruction unaries.Move rd rs = i.Immediate Addi rd rs (immediates.Number (pos 0))
unary_instruction unaries.Not rd rs = i.Immediate Xori rd rs (immediates.Number (negsuc 0))
unary_instruction unaries.Negate rd rs = register_instruction Sub rd 0 rs
unary_instruction unaries.IsZero rd rs = i.Immediate Sltiu rd rs (immediates.Number (pos 1))
unary_instruction unaries.IsNotZero rd rs = register_instruction Sltu rd 0 rs
unary_instruction unaries.IsNegative rd rs = register_instruction Slt rd rs 0
unary_instruction unaries.IsPositive rd rs = register_instruction Slt rd 0 rs

abbrev pub return_instruction : Instruction
return_instruction = i.Jalr 0 1 (immediates.Number (pos 0))

-- an instruction whose operands need no values; ECALL is the last case
unfoldable pub fixed : Operation → List Lexeme → Result Instr FaultKind
fixed (ops.Register op) ls = three_with_last name ls >>- λ r. Ok (instrs.Register op r.0 r.1 r.2)
fixed ops.Fence ls = fence ls
fixed ops.FenceTso ls = without_operands fence_tso ls
fixed ops.Ebreak ls = without_operands instrs.Ebreak ls
fixed (ops.LoadReserved order) ls = two_with_last address ls >>- λ r. Ok (instrs.LoadReserved order.aq order.rl r.0 r.1)
fixed (ops.StoreConditional order) ls = three_with_last address ls >>- λ r. Ok (instrs.StoreConditional order.aq order.rl r.0 r.2 r.1)
fixed (ops.Amo op order) ls = three_with_last address ls >>- λ r. Ok (instrs.Amo op order.aq order.rl r.0 r.2 r.1)
fixed _ ls = without_operands instrs.Ecall ls

abbrev as_fixed : Result Instr FaultKind → Result Instruction FaultKind
as_fixed (Ok instr) = Ok (i.Fixed instr)
as_fixed (Err fault) = Err fault

-- the instruction with a name at the front of a statement and the operands after it
unfoldable pub instruction : Operation → List Lexeme → Result Instruction FaultKind
instruction ops.Lui ls = register_and upper ls >>- λ o. Ok (i.Lui o.0 o.1)
instruction ops.Auipc ls = register_and upper ls >>- λ o. Ok (i.Auipc o.0 o.1)
instruction ops.Jal ls = jal ls
instruction ops.Jalr ls = jalr ls
instruction (ops.Branch op) ls = registers_and target ls >>- λ o. Ok (i.Branch op o.0 o.1 o.2)
instruction (ops.Load op) ls = register_and_memory ls >>- λ o. Ok (i.Load op o.0 o.1 o.2)
instruction (ops.Store op) ls = register_and_memory ls >>- λ o. Ok (i.Store op o.1 o.0 o.2)
instruction (ops.Immediate op) ls = registers_and immediate ls >>- λ o. Ok (i.Immediate op o.0 o.1 o.2)
instruction (ops.Shift op) ls = registers_and number ls >>- λ o. Ok (i.Shift op o.0 o.1 o.2)
instruction ops.Nop ls = without_operands (unary_instruction unaries.Move 0 0) ls
instruction ops.Ret ls = without_operands return_instruction ls
instruction (ops.Unary op) ls = two_with_last name ls >>- λ r. Ok (unary_instruction op r.0 r.1)
instruction (ops.BranchZero op) ls = register_and target ls >>- λ o. Ok (i.Branch op o.0 0 o.1)
instruction (ops.ZeroBranch op) ls = register_and target ls >>- λ o. Ok (i.Branch op 0 o.0 o.1)
instruction (ops.SwappedBranch op) ls = registers_and target ls >>- λ o. Ok (i.Branch op o.1 o.0 o.2)
instruction ops.Jump ls = jump 0 ls
instruction ops.JumpRegister ls = jump_register 0 ls
instruction operation ls = as_fixed (fixed operation ls)
