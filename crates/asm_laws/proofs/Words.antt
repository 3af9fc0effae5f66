-- Words of instructions, and their lines in a listing.
use Rattle.std.proofs.Common.{◌≡◌, ℕ, ◌+◌, ◌/◌, ◌%◌, ◌^◌, ◌<◌, List, [], ◌∷◌, ◌++◌, length, ap, sym, ◌∙◌, arith, append_assoc, Bool, true, false}
use Rattle.std.specs.Int.{w32, to_le_bytes}
use Rattle.isa_table.specs.Spells.{word_of, bit}
use Rattle.isa_table.specs.Table.{branch_funct3, load_funct3, store_funct3, immediate_funct3, shift_funct3, shift_funct7, register_funct3, register_funct7, amo_funct5}
use Rattle.isa_table.specs.declared.instr.Instr.{Instr}
use Rattle.isa_table.specs.declared.instr.Instr.TheVariants.{Lui, Auipc, Jal, Jalr, Branch, Load, Store, Immediate, Shift, Register, Fence, Ecall, Ebreak, LoadReserved, StoreConditional, Amo}
use Rattle.isa_table.specs.declared.mnemonic.BranchOp.{BranchOp}
use Rattle.isa_table.specs.declared.mnemonic.BranchOp.TheVariants.{Beq}
use Rattle.isa_table.specs.declared.mnemonic.LoadOp.{LoadOp}
use Rattle.isa_table.specs.declared.mnemonic.LoadOp.TheVariants.{Lb}
use Rattle.isa_table.specs.declared.mnemonic.StoreOp.{StoreOp}
use Rattle.isa_table.specs.declared.mnemonic.StoreOp.TheVariants.{Sb}
use Rattle.isa_table.specs.declared.mnemonic.ImmediateOp.{ImmediateOp}
use Rattle.isa_table.specs.declared.mnemonic.ImmediateOp.TheVariants.{Addi}
use Rattle.isa_table.specs.declared.mnemonic.ShiftOp.{ShiftOp}
use Rattle.isa_table.specs.declared.mnemonic.ShiftOp.TheVariants.{Slli}
use Rattle.isa_table.specs.declared.mnemonic.RegisterOp.{RegisterOp}
use Rattle.isa_table.specs.declared.mnemonic.RegisterOp.TheVariants.{Add}
use Rattle.isa_table.specs.declared.mnemonic.AmoOp.{AmoOp}
use Rattle.isa_table.specs.declared.mnemonic.AmoOp.TheVariants.{Amoswap}
use Rattle.isa_disasm.specs.Listing.{word_of_bytes, word_entry, listing}

-- ---- an instruction's word has 32 bits
branch_small : (op : BranchOp) → branch_funct3 op < 8
branch_small Beq = omega arith
branch_small _ = omega arith

load_small : (op : LoadOp) → load_funct3 op < 8
load_small Lb = omega arith
load_small _ = omega arith

store_small : (op : StoreOp) → store_funct3 op < 8
store_small Sb = omega arith
store_small _ = omega arith

immediate_small : (op : ImmediateOp) → immediate_funct3 op < 8
immediate_small Addi = omega arith
immediate_small _ = omega arith

shift_small : (op : ShiftOp) → (shift_funct3 op < 8) × (shift_funct7 op < 64)
shift_small Slli = (omega arith, omega arith)
shift_small _ = (omega arith, omega arith)

register_small : (op : RegisterOp) → (register_funct3 op < 8) × (register_funct7 op < 64)
register_small Add = (omega arith, omega arith)
register_small _ = (omega arith, omega arith)

amo_small : (op : AmoOp) → amo_funct5 op < 32
amo_small Amoswap = omega arith
amo_small _ = omega arith

bit_small : (b : Bool) → bit b < 2
bit_small true = omega arith
bit_small false = omega arith

pub word_small : (i : Instr) → word_of i < 2 ^ 32
unfolding word_of
word_small (Lui rd imm) = omega arith
word_small (Auipc rd imm) = omega arith
word_small (Jal rd offset) = omega arith
word_small (Jalr rd rs1 imm) = omega arith
word_small (Branch op rs1 rs2 offset) = omega (arith, branch_small op)
word_small (Load op rd rs1 imm) = omega (arith, load_small op)
word_small (Store op rs1 rs2 imm) = omega (arith, store_small op)
word_small (Immediate op rd rs1 imm) = omega (arith, immediate_small op)
word_small (Shift op rd rs1 amount) = omega (arith, (shift_small op).0, (shift_small op).1)
word_small (Register op rd rs1 rs2) = omega (arith, (register_small op).0, (register_small op).1)
word_small (Fence mode pred succ rs1 rd) = omega arith
word_small Ecall = omega arith
word_small Ebreak = omega arith
word_small (LoadReserved aq rl rd rs1) = omega (arith, bit_small aq, bit_small rl)
word_small (StoreConditional aq rl rd rs1 rs2) = omega (arith, bit_small aq, bit_small rl)
word_small (Amo op aq rl rd rs1 rs2) = omega (arith, amo_small op, bit_small aq, bit_small rl)

-- ---- the line of a word that stands behind whole words
back_again : (w : ℕ) → w < 2 ^ 32 → word_of_bytes (w % 256) (w / 256 % 256) (w / 65536 % 256) (w / 16777216 % 256) ≡ w
back_again w h = omega arith

pub word_line_in : (at w : ℕ) (rest : List ℕ) → w < 2 ^ 32 → listing at (to_le_bytes w32 w ++ rest) ≡ word_entry at w (listing (at + 4) rest)
unfolding listing
word_line_in at w rest h = ap (λ v. word_entry at v (listing (at + 4) rest)) (back_again w h)

entry_goes_on : (at word : ℕ) (more rest : List ℕ) → word_entry at word (more ++ rest) ≡ word_entry at word more ++ rest
entry_goes_on at word more rest = sym (simp append_assoc)

pub lines_cut : (front rest : List ℕ) (at : ℕ) → length front % 4 ≡ 0 → listing at (front ++ rest) ≡ listing at front ++ listing (at + length front) rest
unfolding listing
lines_cut [] rest at h = ap (λ k. listing k rest) (omega arith)
lines_cut (a ∷ []) rest at h = absurd (omega arith)
lines_cut (a ∷ b ∷ []) rest at h = absurd (omega arith)
lines_cut (a ∷ b ∷ c ∷ []) rest at h = absurd (omega arith)
lines_cut (a ∷ b ∷ c ∷ d ∷ front) rest at h =
    let w = word_of_bytes a b c d in
    let e : at + 4 + length front ≡ at + length (a ∷ b ∷ c ∷ d ∷ front) = omega arith in
    ap (word_entry at w) (lines_cut front rest (at + 4) (omega arith) ∙ ap (λ k. listing (at + 4) front ++ listing k rest) e)
    ∙ entry_goes_on at w (listing (at + 4) front) (listing (at + length (a ∷ b ∷ c ∷ d ∷ front)) rest)
