-- The instruction of a word, in the decoder's order: by opcode, then by the other codes. `Spells`
-- has the manual's words; the law `decoded_is_spelled` ties the two.
use Rattle.std.specs.Prelude.{ℕ, ◌+◌, ◌*◌, ◌/◌, ◌%◌, ◌^◌, ◌==◌, ◌||◌}
use Rattle.std.specs.Prelude.{Option, Some, None, if◌then◌else◌, Bool, option_map}
use Rattle.isa_table.specs.Ranges.{sign_extend}
use Rattle.isa_table.specs.declared.instr.Instr.{Instr}
use Rattle.isa_table.specs.declared.instr.Instr.TheVariants.{Lui, Auipc, Jal, Jalr, Branch, Load}
use Rattle.isa_table.specs.declared.instr.Instr.TheVariants.{Store, Immediate, Shift}
use Rattle.isa_table.specs.declared.instr.Instr.TheVariants.{Register, Fence, Ecall, Ebreak}
use Rattle.isa_table.specs.declared.instr.Instr.TheVariants.{LoadReserved, StoreConditional, Amo}
use Rattle.isa_table.specs.declared.mnemonic.BranchOp.{BranchOp}
use Rattle.isa_table.specs.declared.mnemonic.BranchOp.TheVariants.{Beq, Bne, Blt, Bge, Bltu, Bgeu}
use Rattle.isa_table.specs.declared.mnemonic.LoadOp.{LoadOp}
use Rattle.isa_table.specs.declared.mnemonic.LoadOp.TheVariants.{Lb, Lh, Lw, Lbu, Lhu}
use Rattle.isa_table.specs.declared.mnemonic.StoreOp.{StoreOp}
use Rattle.isa_table.specs.declared.mnemonic.StoreOp.TheVariants.{Sb, Sh, Sw}
use Rattle.isa_table.specs.declared.mnemonic.ImmediateOp.{ImmediateOp}
use Rattle.isa_table.specs.declared.mnemonic.ImmediateOp.TheVariants.{Addi, Slti, Sltiu, Xori, Ori}
use Rattle.isa_table.specs.declared.mnemonic.ImmediateOp.TheVariants.{Andi}
use Rattle.isa_table.specs.declared.mnemonic.ShiftOp.{ShiftOp}
use Rattle.isa_table.specs.declared.mnemonic.ShiftOp.TheVariants.{Slli, Srli, Srai}
use Rattle.isa_table.specs.declared.mnemonic.RegisterOp.{RegisterOp}
use Rattle.isa_table.specs.declared.mnemonic.RegisterOp.TheVariants.{Add, Sub, Sll, Slt, Sltu, Xor}
use Rattle.isa_table.specs.declared.mnemonic.RegisterOp.TheVariants.{Srl, Sra, Or, And}
use Rattle.isa_table.specs.declared.mnemonic.AmoOp.{AmoOp}
use Rattle.isa_table.specs.declared.mnemonic.AmoOp.TheVariants.{Amoswap, Amoadd, Amoxor, Amoand}
use Rattle.isa_table.specs.declared.mnemonic.AmoOp.TheVariants.{Amoor}
use Rattle.isa_table.specs.declared.mnemonic.AmoOp.TheVariants.{Amomin, Amomax, Amominu, Amomaxu}

-- this many bits of a word, from a place on
abbrev pub bits : ℕ → ℕ → ℕ → ℕ
bits word place width = word / 2 ^ place % 2 ^ width

-- opcode: bits 6 to 0
abbrev pub opcode : ℕ → ℕ
opcode w = bits w 0 7

-- rd: bits 11 to 7
abbrev pub rd_of : ℕ → ℕ
rd_of w = bits w 7 5

-- funct3: bits 14 to 12
abbrev pub funct3 : ℕ → ℕ
funct3 w = bits w 12 3

-- rs1: bits 19 to 15
abbrev pub rs1_of : ℕ → ℕ
rs1_of w = bits w 15 5

-- rs2: bits 24 to 20
abbrev pub rs2_of : ℕ → ℕ
rs2_of w = bits w 20 5

-- funct7: bits 31 to 25
abbrev pub funct7 : ℕ → ℕ
funct7 w = bits w 25 7

-- bits 31 to 27, the operation of the A extension
abbrev pub funct5 : ℕ → ℕ
funct5 w = bits w 27 5

-- aq: bit 26
abbrev pub aq_of : ℕ → Bool
aq_of w = bits w 26 1 == 1

-- rl: bit 25
abbrev pub rl_of : ℕ → Bool
rl_of w = bits w 25 1 == 1

-- the immediate of the I format, sign-extended
abbrev pub i_immediate : ℕ → ℕ
i_immediate w = sign_extend 12 (bits w 20 12)

-- the immediate of the S format, sign-extended
abbrev pub s_immediate : ℕ → ℕ
s_immediate w = sign_extend 12 (bits w 25 7 * 2 ^ 5 + bits w 7 5)

-- the offset of the B format, sign-extended
abbrev pub b_immediate : ℕ → ℕ
b_immediate w =
    sign_extend 13
    (bits w 31 1 * 2 ^ 12 + bits w 7 1 * 2 ^ 11 + bits w 25 6 * 2 ^ 5 + bits w 8 4 * 2)

-- the upper 20 bits that the U format gives
abbrev pub u_immediate : ℕ → ℕ
u_immediate w = bits w 12 20

-- the offset of the J format, sign-extended
abbrev pub j_immediate : ℕ → ℕ
j_immediate w =
    sign_extend 21
    (bits w 31 1 * 2 ^ 20 + bits w 12 8 * 2 ^ 12 + bits w 20 1 * 2 ^ 11 + bits w 21 10 * 2)

-- ---- operations by their codes
-- the branch of a funct3
abbrev pub branch_op : ℕ → Option BranchOp
branch_op funct3 =
    if funct3 == 0 then Some Beq else
    if funct3 == 1 then Some Bne else
    if funct3 == 4 then Some Blt else
    if funct3 == 5 then Some Bge else
    if funct3 == 6 then Some Bltu else
    if funct3 == 7 then Some Bgeu else None

-- the load of a funct3
abbrev pub load_op : ℕ → Option LoadOp
load_op funct3 =
    if funct3 == 0 then Some Lb else
    if funct3 == 1 then Some Lh else
    if funct3 == 2 then Some Lw else
    if funct3 == 4 then Some Lbu else
    if funct3 == 5 then Some Lhu else None

-- the store of a funct3
abbrev pub store_op : ℕ → Option StoreOp
store_op funct3 =
    if funct3 == 0 then Some Sb else
    if funct3 == 1 then Some Sh else
    if funct3 == 2 then Some Sw else None

-- the operation with an immediate of a funct3
abbrev pub immediate_op : ℕ → Option ImmediateOp
immediate_op funct3 =
    if funct3 == 0 then Some Addi else
    if funct3 == 2 then Some Slti else
    if funct3 == 3 then Some Sltiu else
    if funct3 == 4 then Some Xori else
    if funct3 == 6 then Some Ori else
    if funct3 == 7 then Some Andi else None

-- the shift by an immediate of a funct7 and a funct3
abbrev pub shift_op : ℕ → ℕ → Option ShiftOp
shift_op funct7 funct3 =
    if funct7 == 0x00 then
    (if funct3 == 1 then Some Slli else
    if funct3 == 5 then Some Srli else None) else
    if funct7 == 0x20 then
    (if funct3 == 5 then Some Srai else None) else None

-- the operation on two registers of a funct7 and a funct3
abbrev pub register_op : ℕ → ℕ → Option RegisterOp
register_op funct7 funct3 =
    if funct7 == 0x00 then
    (if funct3 == 0 then Some Add else
    if funct3 == 1 then Some Sll else
    if funct3 == 2 then Some Slt else
    if funct3 == 3 then Some Sltu else
    if funct3 == 4 then Some Xor else
    if funct3 == 5 then Some Srl else
    if funct3 == 6 then Some Or else
    if funct3 == 7 then Some And else None) else
    if funct7 == 0x20 then
    (if funct3 == 0 then Some Sub else
    if funct3 == 5 then Some Sra else None) else None

-- the atomic memory operation of bits 31 to 27
abbrev pub amo_op : ℕ → Option AmoOp
amo_op funct5 =
    if funct5 == 0b00000 then Some Amoadd else
    if funct5 == 0b00001 then Some Amoswap else
    if funct5 == 0b00100 then Some Amoxor else
    if funct5 == 0b01000 then Some Amoor else
    if funct5 == 0b01100 then Some Amoand else
    if funct5 == 0b10000 then Some Amomin else
    if funct5 == 0b10100 then Some Amomax else
    if funct5 == 0b11000 then Some Amominu else
    if funct5 == 0b11100 then Some Amomaxu else None

-- ---- instructions by opcode
-- a word with the opcode of JALR
abbrev pub jalr_at : ℕ → Option Instr
jalr_at w =
    if funct3 w == 0 then Some (Jalr (rd_of w) (rs1_of w) (i_immediate w)) else None

-- a word with the opcode of FENCE
abbrev pub fence_at : ℕ → Option Instr
fence_at w =
    if funct3 w == 0 then
    Some (Fence (bits w 28 4) (bits w 24 4) (bits w 20 4) (rs1_of w) (rd_of w)) else None

-- a word with the opcode of the operations with an immediate: for these funct3 a shift
abbrev pub immediate_at : ℕ → Option Instr
immediate_at w =
    if (funct3 w == 1) || (funct3 w == 5) then
    option_map (λ op. Shift op (rd_of w) (rs1_of w) (rs2_of w)) (shift_op (funct7 w) (funct3 w)) else
    option_map (λ op. Immediate op (rd_of w) (rs1_of w) (i_immediate w)) (immediate_op (funct3 w))

-- a word with the opcode of the A extension; LR has zeros for rs2_of
abbrev pub atomic_at : ℕ → Option Instr
atomic_at w =
    if funct3 w == 2 then
    (if funct5 w == 0b00010 then
    (if rs2_of w == 0 then Some (LoadReserved (aq_of w) (rl_of w) (rd_of w) (rs1_of w)) else None) else
    if funct5 w == 0b00011 then
    Some (StoreConditional (aq_of w) (rl_of w) (rd_of w) (rs1_of w) (rs2_of w)) else
    option_map (λ op. Amo op (aq_of w) (rl_of w) (rd_of w) (rs1_of w) (rs2_of w)) (amo_op (funct5 w)))
    else None

-- ECALL and EBREAK are one word each
abbrev pub system_at : ℕ → Option Instr
system_at w =
    if w == 0x00000073 then Some Ecall else
    if w == 0x00100073 then Some Ebreak else None

-- the instruction that a 32-bit word spells, or none
unfoldable pub decoded : ℕ → Option Instr
decoded w =
    if opcode w == 0x37 then Some (Lui (rd_of w) (u_immediate w)) else
    if opcode w == 0x17 then Some (Auipc (rd_of w) (u_immediate w)) else
    if opcode w == 0x6f then Some (Jal (rd_of w) (j_immediate w)) else
    if opcode w == 0x67 then jalr_at w else
    if opcode w == 0x63 then
    option_map (λ op. Branch op (rs1_of w) (rs2_of w) (b_immediate w)) (branch_op (funct3 w)) else
    if opcode w == 0x03 then
    option_map (λ op. Load op (rd_of w) (rs1_of w) (i_immediate w)) (load_op (funct3 w)) else
    if opcode w == 0x23 then
    option_map (λ op. Store op (rs1_of w) (rs2_of w) (s_immediate w)) (store_op (funct3 w)) else
    if opcode w == 0x13 then immediate_at w else
    if opcode w == 0x33 then
    option_map (λ op. Register op (rd_of w) (rs1_of w) (rs2_of w)) (register_op (funct7 w) (funct3 w)) else
    if opcode w == 0x0f then fence_at w else
    if opcode w == 0x73 then system_at w else
    if opcode w == 0x2f then atomic_at w else None
