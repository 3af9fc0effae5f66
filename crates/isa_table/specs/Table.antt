-- The table of encodings in the manual's words: a row for each mnemonic.
-- Unprivileged ISA, "RV32/64G Instruction Set Listings".
use Rattle.std.specs.Prelude.{ℕ, ◌+◌, ◌*◌, ◌/◌, ◌%◌, ◌^◌, List, [], ◌∷◌, map}
use Rattle.std.specs.Prelude.{Bool, true, ◌==◌, ◌&&◌, ◌||◌, nat_le}
use Rattle.std.specs.List.{list_all}
use Rattle.isa_table.specs.declared.mnemonic.Mnemonic.{Mnemonic}
use Rattle.isa_table.specs.declared.mnemonic.Mnemonic.TheVariants.{Lui, Auipc, Jal, Jalr, Branch}
use Rattle.isa_table.specs.declared.mnemonic.Mnemonic.TheVariants.{Load, Store, Immediate, Shift}
use Rattle.isa_table.specs.declared.mnemonic.Mnemonic.TheVariants.{Register, Fence, Ecall, Ebreak}
use Rattle.isa_table.specs.declared.mnemonic.Mnemonic.TheVariants.{LoadReserved, StoreConditional}
use Rattle.isa_table.specs.declared.mnemonic.Mnemonic.TheVariants.{Amo}
use Rattle.isa_table.specs.declared.mnemonic.BranchOp.{BranchOp}
use Rattle.isa_table.specs.declared.mnemonic.BranchOp.TheVariants.{Beq, Bne, Blt, Bge, Bltu, Bgeu}
use Rattle.isa_table.specs.declared.mnemonic.LoadOp.{LoadOp}
use Rattle.isa_table.specs.declared.mnemonic.LoadOp.TheVariants.{Lb, Lh, Lw, Lbu, Lhu}
use Rattle.isa_table.specs.declared.mnemonic.StoreOp.{StoreOp}
use Rattle.isa_table.specs.declared.mnemonic.StoreOp.TheVariants.{Sb, Sh, Sw}
use Rattle.isa_table.specs.declared.mnemonic.ImmediateOp.{ImmediateOp}
use Rattle.isa_table.specs.declared.mnemonic.ImmediateOp.TheVariants.{Addi, Slti, Sltiu, Xori, Ori}
use Rattle.isa_table.specs.declared.mnemonic.ImmediateOp.TheVariants.{Andi}
use Rattle.isa_table.specs.declared.mnemonic.ShiftOp.{ShiftOp}
use Rattle.isa_table.specs.declared.mnemonic.ShiftOp.TheVariants.{Slli, Srli, Srai}
use Rattle.isa_table.specs.declared.mnemonic.RegisterOp.{RegisterOp}
use Rattle.isa_table.specs.declared.mnemonic.RegisterOp.TheVariants.{Add, Sub, Sll, Slt, Sltu, Xor}
use Rattle.isa_table.specs.declared.mnemonic.RegisterOp.TheVariants.{Srl, Sra, Or, And}
use Rattle.isa_table.specs.declared.mnemonic.AmoOp.{AmoOp}
use Rattle.isa_table.specs.declared.mnemonic.AmoOp.TheVariants.{Amoswap, Amoadd, Amoxor, Amoand}
use Rattle.isa_table.specs.declared.mnemonic.AmoOp.TheVariants.{Amoor}
use Rattle.isa_table.specs.declared.mnemonic.AmoOp.TheVariants.{Amomin, Amomax, Amominu, Amomaxu}
use Rattle.isa_table.specs.declared.table.Field.{Field}
use Rattle.isa_table.specs.declared.table.Row.{Row}
use Rattle.isa_table.specs.declared.table.Operand.{Operand}
use Rattle.isa_table.specs.declared.table.Operand.TheVariants as operand

-- a row of the table: the word with zeros for the operands, and the fields of the operands
pub record Encoding : Type 0 where
  pub mnemonic : Mnemonic
  pub fixed : ℕ
  pub fields : List Field

-- the `width` bits of the operand from its bit `low` on stand in the word from bit `place` on
abbrev pub field : Operand → ℕ → ℕ → ℕ → Field
field operand low place width =
    record { operand = operand; low = low; place = place; width = width }

-- ---- fields that several formats share
-- rd, bits 11 to 7
abbrev pub rd : Field
rd = field operand.Rd 0 7 5

-- rs1, bits 19 to 15
abbrev pub rs1 : Field
rs1 = field operand.Rs1 0 15 5

-- rs2, bits 24 to 20
abbrev pub rs2 : Field
rs2 = field operand.Rs2 0 20 5

-- aq, bit 26
abbrev pub aq : Field
aq = field operand.Aq 0 26 1

-- rl, bit 25
abbrev pub rl : Field
rl = field operand.Rl 0 25 1

-- this many bits of the immediate, from bit `low` on, stand from bit `place` on
abbrev pub imm : ℕ → ℕ → ℕ → Field
imm low place width = field operand.Immediate low place width

-- ---- formats
-- R: rd, rs1, rs2
abbrev pub r_format : List Field
r_format = rd ∷ rs1 ∷ rs2 ∷ []

-- I: rd, rs1, imm[11:0]
abbrev pub i_format : List Field
i_format = rd ∷ rs1 ∷ imm 0 20 12 ∷ []

-- S: imm[4:0], rs1, rs2, imm[11:5]
abbrev pub s_format : List Field
s_format = rs1 ∷ rs2 ∷ imm 0 7 5 ∷ imm 5 25 7 ∷ []

-- B: imm[11], imm[4:1], rs1, rs2, imm[10:5], imm[12]
abbrev pub b_format : List Field
b_format = rs1 ∷ rs2 ∷ imm 11 7 1 ∷ imm 1 8 4 ∷ imm 5 25 6 ∷ imm 12 31 1 ∷ []

-- U: rd, imm[31:12], the immediate being these 20 bits
abbrev pub u_format : List Field
u_format = rd ∷ imm 0 12 20 ∷ []

-- J: rd, imm[19:12], imm[11], imm[10:1], imm[20]
abbrev pub j_format : List Field
j_format = rd ∷ imm 12 12 8 ∷ imm 11 20 1 ∷ imm 1 21 10 ∷ imm 20 31 1 ∷ []

-- shifts by an immediate: rd, rs1, shamt
abbrev pub shift_format : List Field
shift_format = rd ∷ rs1 ∷ field operand.Amount 0 20 5 ∷ []

-- FENCE: rd, rs1, succ, pred, fm
abbrev pub fence_format : List Field
fence_format =
    rd ∷ rs1 ∷
    field operand.Succ 0 20 4 ∷ field operand.Pred 0 24 4 ∷ field operand.Mode 0 28 4 ∷ []

-- LR: rd, rs1, rl, aq
abbrev pub lr_format : List Field
lr_format = rd ∷ rs1 ∷ rl ∷ aq ∷ []

-- SC and the atomic memory operations: rd, rs1, rs2, rl, aq
abbrev pub amo_format : List Field
amo_format = rd ∷ rs1 ∷ rs2 ∷ rl ∷ aq ∷ []

-- ---- codes of the operations
-- funct3 of a branch
abbrev pub branch_funct3 : BranchOp → ℕ
branch_funct3 Beq = 0
branch_funct3 Bne = 1
branch_funct3 Blt = 4
branch_funct3 Bge = 5
branch_funct3 Bltu = 6
branch_funct3 Bgeu = 7

-- funct3 of a load
abbrev pub load_funct3 : LoadOp → ℕ
load_funct3 Lb = 0
load_funct3 Lh = 1
load_funct3 Lw = 2
load_funct3 Lbu = 4
load_funct3 Lhu = 5

-- funct3 of a store
abbrev pub store_funct3 : StoreOp → ℕ
store_funct3 Sb = 0
store_funct3 Sh = 1
store_funct3 Sw = 2

-- funct3 of an operation on a register and an immediate
abbrev pub immediate_funct3 : ImmediateOp → ℕ
immediate_funct3 Addi = 0
immediate_funct3 Slti = 2
immediate_funct3 Sltiu = 3
immediate_funct3 Xori = 4
immediate_funct3 Ori = 6
immediate_funct3 Andi = 7

-- funct3 of a shift by an immediate
abbrev pub shift_funct3 : ShiftOp → ℕ
shift_funct3 Slli = 1
shift_funct3 Srli = 5
shift_funct3 Srai = 5

-- funct7 of a shift by an immediate
abbrev pub shift_funct7 : ShiftOp → ℕ
shift_funct7 Slli = 0x00
shift_funct7 Srli = 0x00
shift_funct7 Srai = 0x20

-- funct3 of an operation on two registers
abbrev pub register_funct3 : RegisterOp → ℕ
register_funct3 Add = 0
register_funct3 Sub = 0
register_funct3 Sll = 1
register_funct3 Slt = 2
register_funct3 Sltu = 3
register_funct3 Xor = 4
register_funct3 Srl = 5
register_funct3 Sra = 5
register_funct3 Or = 6
register_funct3 And = 7

-- funct7 of an operation on two registers
abbrev pub register_funct7 : RegisterOp → ℕ
register_funct7 Add = 0x00
register_funct7 Sub = 0x20
register_funct7 Sll = 0x00
register_funct7 Slt = 0x00
register_funct7 Sltu = 0x00
register_funct7 Xor = 0x00
register_funct7 Srl = 0x00
register_funct7 Sra = 0x20
register_funct7 Or = 0x00
register_funct7 And = 0x00

-- bits 31 to 27 of an atomic memory operation
abbrev pub amo_funct5 : AmoOp → ℕ
amo_funct5 Amoswap = 0b00001
amo_funct5 Amoadd = 0b00000
amo_funct5 Amoxor = 0b00100
amo_funct5 Amoand = 0b01100
amo_funct5 Amoor = 0b01000
amo_funct5 Amomin = 0b10000
amo_funct5 Amomax = 0b10100
amo_funct5 Amominu = 0b11000
amo_funct5 Amomaxu = 0b11100

-- ---- rows
-- the word of an opcode, funct3 and funct7
abbrev pub code : ℕ → ℕ → ℕ → ℕ
code opcode funct3 funct7 = opcode + funct3 * 2 ^ 12 + funct7 * 2 ^ 25

-- the word of the A extension with these bits 31 to 27
abbrev pub atomic_code : ℕ → ℕ
atomic_code funct5 = code 0x2f 2 (funct5 * 4)

-- the word of a mnemonic, with zeros for the operands
abbrev pub fixed_of : Mnemonic → ℕ
fixed_of Lui = 0x37
fixed_of Auipc = 0x17
fixed_of Jal = 0x6f
fixed_of Jalr = code 0x67 0 0
fixed_of (Branch op) = code 0x63 (branch_funct3 op) 0
fixed_of (Load op) = code 0x03 (load_funct3 op) 0
fixed_of (Store op) = code 0x23 (store_funct3 op) 0
fixed_of (Immediate op) = code 0x13 (immediate_funct3 op) 0
fixed_of (Shift op) = code 0x13 (shift_funct3 op) (shift_funct7 op)
fixed_of (Register op) = code 0x33 (register_funct3 op) (register_funct7 op)
fixed_of Fence = code 0x0f 0 0
fixed_of Ecall = 0x00000073
fixed_of Ebreak = 0x00100073
fixed_of LoadReserved = atomic_code 0b00010
fixed_of StoreConditional = atomic_code 0b00011
fixed_of (Amo op) = atomic_code (amo_funct5 op)

-- the fields of a mnemonic's operands
abbrev pub fields_of : Mnemonic → List Field
fields_of Lui = u_format
fields_of Auipc = u_format
fields_of Jal = j_format
fields_of Jalr = i_format
fields_of (Branch op) = b_format
fields_of (Load op) = i_format
fields_of (Store op) = s_format
fields_of (Immediate op) = i_format
fields_of (Shift op) = shift_format
fields_of (Register op) = r_format
fields_of Fence = fence_format
fields_of Ecall = []
fields_of Ebreak = []
fields_of LoadReserved = lr_format
fields_of StoreConditional = amo_format
fields_of (Amo op) = amo_format

-- the row of a mnemonic
abbrev pub row_of : Mnemonic → Encoding
row_of m = record { mnemonic = m; fixed = fixed_of m; fields = fields_of m }

-- the 51 mnemonics, in the order of the listing
abbrev pub mnemonics : List Mnemonic
mnemonics =
    Lui ∷
    Auipc ∷
    Jal ∷
    Jalr ∷
    Branch Beq ∷
    Branch Bne ∷
    Branch Blt ∷
    Branch Bge ∷
    Branch Bltu ∷
    Branch Bgeu ∷
    Load Lb ∷
    Load Lh ∷
    Load Lw ∷
    Load Lbu ∷
    Load Lhu ∷
    Store Sb ∷
    Store Sh ∷
    Store Sw ∷
    Immediate Addi ∷
    Immediate Slti ∷
    Immediate Sltiu ∷
    Immediate Xori ∷
    Immediate Ori ∷
    Immediate Andi ∷
    Shift Slli ∷
    Shift Srli ∷
    Shift Srai ∷
    Register Add ∷
    Register Sub ∷
    Register Sll ∷
    Register Slt ∷
    Register Sltu ∷
    Register Xor ∷
    Register Srl ∷
    Register Sra ∷
    Register Or ∷
    Register And ∷
    Fence ∷
    Ecall ∷
    Ebreak ∷
    LoadReserved ∷
    StoreConditional ∷
    Amo Amoswap ∷
    Amo Amoadd ∷
    Amo Amoxor ∷
    Amo Amoand ∷
    Amo Amoor ∷
    Amo Amomin ∷
    Amo Amomax ∷
    Amo Amominu ∷
    Amo Amomaxu ∷ []

-- the table: the row of each mnemonic
abbrev pub rows : List Encoding
rows = map row_of mnemonics

-- a row of the code, without the address of its fields in memory
abbrev pub encoding : Row → Encoding
encoding r = record { mnemonic = r.mnemonic; fixed = r.fixed; fields = r.fields.now }

-- two fields share no bit of the word
abbrev pub is_apart : Field → Field → Bool
is_apart f g = nat_le (f.place + f.width) g.place || nat_le (g.place + g.width) f.place

-- no two fields of the list share a bit
abbrev pub are_apart : List Field → Bool
are_apart [] = true
are_apart (f ∷ fs) = list_all (is_apart f) fs && are_apart fs

-- the field lies in the word, where the fixed word has zeros
abbrev pub is_free : ℕ → Field → Bool
is_free fixed f = nat_le (f.place + f.width) 32 && (fixed / 2 ^ f.place % 2 ^ f.width == 0)

-- the fields of the row lie in the word, apart from one another and from its set fixed bits
abbrev pub has_fields_apart : Encoding → Bool
has_fields_apart r = list_all (is_free r.fixed) r.fields && are_apart r.fields
