-- The instruction of a vector's text.
use Rattle.std.specs.Prelude.{ℕ, ◌/◌, ◌%◌, ◌^◌, ◌==◌}
use Rattle.isa_table.specs.declared.mnemonic.Mnemonic.{Mnemonic}
use Rattle.isa_table.specs.declared.mnemonic.Mnemonic.TheVariants as mnemonic
use Rattle.isa_table.specs.declared.instr.Instr.{Instr}
use Rattle.isa_table.specs.declared.instr.Instr.TheVariants.{Lui, Auipc, Jal, Jalr, Branch, Load}
use Rattle.isa_table.specs.declared.instr.Instr.TheVariants.{Store, Immediate, Shift, Register}
use Rattle.isa_table.specs.declared.instr.Instr.TheVariants.{Fence, Ecall, Ebreak, LoadReserved}
use Rattle.isa_table.specs.declared.instr.Instr.TheVariants.{StoreConditional, Amo}
use Rattle.isa_table.specs.declared.vectors.Vector.{Vector}

-- the instruction of a mnemonic, rd, rs1, rs2 and the rest of a vector's operands
abbrev pub instr_with : Mnemonic → ℕ → ℕ → ℕ → ℕ → Instr
instr_with mnemonic.Lui rd rs1 rs2 imm = Lui rd imm
instr_with mnemonic.Auipc rd rs1 rs2 imm = Auipc rd imm
instr_with mnemonic.Jal rd rs1 rs2 imm = Jal rd imm
instr_with mnemonic.Jalr rd rs1 rs2 imm = Jalr rd rs1 imm
instr_with (mnemonic.Branch op) rd rs1 rs2 imm = Branch op rs1 rs2 imm
instr_with (mnemonic.Load op) rd rs1 rs2 imm = Load op rd rs1 imm
instr_with (mnemonic.Store op) rd rs1 rs2 imm = Store op rs1 rs2 imm
instr_with (mnemonic.Immediate op) rd rs1 rs2 imm = Immediate op rd rs1 imm
instr_with (mnemonic.Shift op) rd rs1 rs2 imm = Shift op rd rs1 imm
instr_with (mnemonic.Register op) rd rs1 rs2 imm = Register op rd rs1 rs2
instr_with mnemonic.Fence rd rs1 rs2 imm =
    Fence (imm / 2 ^ 8) (imm / 2 ^ 4 % 2 ^ 4) (imm % 2 ^ 4) rs1 rd
instr_with mnemonic.Ecall rd rs1 rs2 imm = Ecall
instr_with mnemonic.Ebreak rd rs1 rs2 imm = Ebreak
instr_with mnemonic.LoadReserved rd rs1 rs2 imm = LoadReserved (imm / 2 == 1) (imm % 2 == 1) rd rs1
instr_with mnemonic.StoreConditional rd rs1 rs2 imm =
    StoreConditional (imm / 2 == 1) (imm % 2 == 1) rd rs1 rs2
instr_with (mnemonic.Amo op) rd rs1 rs2 imm = Amo op (imm / 2 == 1) (imm % 2 == 1) rd rs1 rs2

-- the instruction of a vector's text
abbrev pub instr_of : Vector → Instr
instr_of v = instr_with v.mnemonic v.rd v.rs1 v.rs2 v.imm
