-- The words that spell each instruction, as the manual puts it: the fixed bits of its row, and each
-- operand in its fields.
-- Unprivileged ISA, "Base Instruction Formats" and "Immediate Encoding Variants".
use Rattle.std.specs.Prelude.{ℕ, ◌≡◌, ◌+◌, ◌*◌, ◌/◌, ◌%◌, ◌^◌, ◌<◌, ◌==◌, if◌then◌else◌, List, []}
use Rattle.std.specs.Prelude.{◌∷◌, sum_by, cond, Bool}
use Rattle.isa_table.specs.Ranges.{IsSignedWord}
use Rattle.isa_table.specs.Table.{fixed_of, fields_of}
use Rattle.isa_table.specs.declared.mnemonic.Mnemonic.{Mnemonic}
use Rattle.isa_table.specs.declared.mnemonic.Mnemonic.TheVariants as mnemonic
use Rattle.isa_table.specs.declared.instr.Instr.{Instr}
use Rattle.isa_table.specs.declared.instr.Instr.TheVariants.{Lui, Auipc, Jal, Jalr, Branch, Load}
use Rattle.isa_table.specs.declared.instr.Instr.TheVariants.{Store, Immediate, Shift, Register}
use Rattle.isa_table.specs.declared.instr.Instr.TheVariants.{Fence, Ecall, Ebreak, LoadReserved}
use Rattle.isa_table.specs.declared.instr.Instr.TheVariants.{StoreConditional, Amo}
use Rattle.isa_table.specs.declared.table.Field.{Field}
use Rattle.isa_table.specs.declared.table.Operand.{Operand}
use Rattle.isa_table.specs.declared.table.Operand.TheVariants as operand

-- the instruction without its operands
abbrev pub mnemonic_of : Instr → Mnemonic
mnemonic_of (Lui rd imm) = mnemonic.Lui
mnemonic_of (Auipc rd imm) = mnemonic.Auipc
mnemonic_of (Jal rd offset) = mnemonic.Jal
mnemonic_of (Jalr rd rs1 imm) = mnemonic.Jalr
mnemonic_of (Branch op rs1 rs2 offset) = mnemonic.Branch op
mnemonic_of (Load op rd rs1 imm) = mnemonic.Load op
mnemonic_of (Store op rs1 rs2 imm) = mnemonic.Store op
mnemonic_of (Immediate op rd rs1 imm) = mnemonic.Immediate op
mnemonic_of (Shift op rd rs1 amount) = mnemonic.Shift op
mnemonic_of (Register op rd rs1 rs2) = mnemonic.Register op
mnemonic_of (Fence mode pred succ rs1 rd) = mnemonic.Fence
mnemonic_of Ecall = mnemonic.Ecall
mnemonic_of Ebreak = mnemonic.Ebreak
mnemonic_of (LoadReserved aq rl rd rs1) = mnemonic.LoadReserved
mnemonic_of (StoreConditional aq rl rd rs1 rs2) = mnemonic.StoreConditional
mnemonic_of (Amo op aq rl rd rs1 rs2) = mnemonic.Amo op

-- a flag as a bit
abbrev pub bit : Bool → ℕ
bit b = cond b 1 0

-- the operands of an instruction, by name
abbrev pub operands : Instr → List (Operand × ℕ)
operands (Lui rd imm) = (operand.Rd, rd) ∷ (operand.Immediate, imm) ∷ []
operands (Auipc rd imm) = (operand.Rd, rd) ∷ (operand.Immediate, imm) ∷ []
operands (Jal rd offset) = (operand.Rd, rd) ∷ (operand.Immediate, offset) ∷ []
operands (Jalr rd rs1 imm) = (operand.Rd, rd) ∷ (operand.Rs1, rs1) ∷ (operand.Immediate, imm) ∷ []
operands (Branch op rs1 rs2 offset) =
    (operand.Rs1, rs1) ∷ (operand.Rs2, rs2) ∷ (operand.Immediate, offset) ∷ []
operands (Load op rd rs1 imm) =
    (operand.Rd, rd) ∷ (operand.Rs1, rs1) ∷ (operand.Immediate, imm) ∷ []
operands (Store op rs1 rs2 imm) =
    (operand.Rs1, rs1) ∷ (operand.Rs2, rs2) ∷ (operand.Immediate, imm) ∷ []
operands (Immediate op rd rs1 imm) =
    (operand.Rd, rd) ∷ (operand.Rs1, rs1) ∷ (operand.Immediate, imm) ∷ []
operands (Shift op rd rs1 amount) =
    (operand.Rd, rd) ∷ (operand.Rs1, rs1) ∷ (operand.Amount, amount) ∷ []
operands (Register op rd rs1 rs2) = (operand.Rd, rd) ∷ (operand.Rs1, rs1) ∷ (operand.Rs2, rs2) ∷ []
operands (Fence mode pred succ rs1 rd) =
    (operand.Mode, mode) ∷ (operand.Pred, pred) ∷ (operand.Succ, succ) ∷
    (operand.Rs1, rs1) ∷ (operand.Rd, rd) ∷ []
operands Ecall = []
operands Ebreak = []
operands (LoadReserved aq rl rd rs1) =
    (operand.Aq, bit aq) ∷ (operand.Rl, bit rl) ∷ (operand.Rd, rd) ∷ (operand.Rs1, rs1) ∷ []
operands (StoreConditional aq rl rd rs1 rs2) =
    (operand.Aq, bit aq) ∷ (operand.Rl, bit rl) ∷
    (operand.Rd, rd) ∷ (operand.Rs1, rs1) ∷ (operand.Rs2, rs2) ∷ []
operands (Amo op aq rl rd rs1 rs2) =
    (operand.Aq, bit aq) ∷ (operand.Rl, bit rl) ∷
    (operand.Rd, rd) ∷ (operand.Rs1, rs1) ∷ (operand.Rs2, rs2) ∷ []

-- a number for each operand, by which operands are compared
abbrev pub operand_index : Operand → ℕ
operand_index operand.Rd = 0
operand_index operand.Rs1 = 1
operand_index operand.Rs2 = 2
operand_index operand.Immediate = 3
operand_index operand.Amount = 4
operand_index operand.Mode = 5
operand_index operand.Pred = 6
operand_index operand.Succ = 7
operand_index operand.Aq = 8
operand_index operand.Rl = 9

-- the value of an operand, by its name
abbrev pub operand_value : Operand → List (Operand × ℕ) → ℕ
operand_value name [] = 0
operand_value name (o ∷ os) = if operand_index name == operand_index o.0 then o.1 else operand_value name os

-- the operands are in the ranges of their formats
abbrev pub InRange : Instr → Type 0
InRange (Lui rd imm) = (rd < 2 ^ 5) × (imm < 2 ^ 20)
InRange (Auipc rd imm) = (rd < 2 ^ 5) × (imm < 2 ^ 20)
InRange (Jal rd offset) = (rd < 2 ^ 5) × IsSignedWord 21 offset × (offset % 2 ≡ 0)
InRange (Jalr rd rs1 imm) = (rd < 2 ^ 5) × (rs1 < 2 ^ 5) × IsSignedWord 12 imm
InRange (Branch op rs1 rs2 offset) =
    (rs1 < 2 ^ 5) × (rs2 < 2 ^ 5) × IsSignedWord 13 offset × (offset % 2 ≡ 0)
InRange (Load op rd rs1 imm) = (rd < 2 ^ 5) × (rs1 < 2 ^ 5) × IsSignedWord 12 imm
InRange (Store op rs1 rs2 imm) = (rs1 < 2 ^ 5) × (rs2 < 2 ^ 5) × IsSignedWord 12 imm
InRange (Immediate op rd rs1 imm) = (rd < 2 ^ 5) × (rs1 < 2 ^ 5) × IsSignedWord 12 imm
InRange (Shift op rd rs1 amount) = (rd < 2 ^ 5) × (rs1 < 2 ^ 5) × (amount < 2 ^ 5)
InRange (Register op rd rs1 rs2) = (rd < 2 ^ 5) × (rs1 < 2 ^ 5) × (rs2 < 2 ^ 5)
InRange (Fence mode pred succ rs1 rd) =
    (mode < 2 ^ 4) × (pred < 2 ^ 4) × (succ < 2 ^ 4) ×
    (rs1 < 2 ^ 5) × (rd < 2 ^ 5)
InRange Ecall = Unit {0}
InRange Ebreak = Unit {0}
InRange (LoadReserved aq rl rd rs1) = (rd < 2 ^ 5) × (rs1 < 2 ^ 5)
InRange (StoreConditional aq rl rd rs1 rs2) = (rd < 2 ^ 5) × (rs1 < 2 ^ 5) × (rs2 < 2 ^ 5)
InRange (Amo op aq rl rd rs1 rs2) = (rd < 2 ^ 5) × (rs1 < 2 ^ 5) × (rs2 < 2 ^ 5)

-- what a field adds to the word: its bits of the operand, at their place
abbrev pub part_of : Instr → Field → ℕ
part_of i f = operand_value f.operand (operands i) / 2 ^ f.low % 2 ^ f.width * 2 ^ f.place

-- the fixed word of the instruction's row, and each field's bits at their place
unfoldable pub word_of : Instr → ℕ
word_of i = fixed_of (mnemonic_of i) + sum_by (part_of i) (fields_of (mnemonic_of i))

-- the word spells the instruction
pub record SpellsInstr (word : ℕ) (i : Instr) : Type 0 where
  pub word_is : word ≡ word_of i
  pub in_range : InRange i
