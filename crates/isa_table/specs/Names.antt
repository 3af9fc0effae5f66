-- The names of the mnemonics. Unprivileged ISA, "RV32/64G Instruction Set Listings".
use Rattle.std.specs.Prelude.{ℕ, List, [], ◌∷◌, Option, Some, None, codes, if◌then◌else◌}
use Rattle.std.specs.Str.{bytes_eq}
use Rattle.isa_table.specs.declared.mnemonic.Mnemonic.{Mnemonic}
use Rattle.isa_table.specs.declared.mnemonic.Mnemonic.TheVariants.{Lui, Auipc, Jal, Jalr, Branch}
use Rattle.isa_table.specs.declared.mnemonic.Mnemonic.TheVariants.{Load, Store, Immediate, Shift}
use Rattle.isa_table.specs.declared.mnemonic.Mnemonic.TheVariants.{Register, Fence, Ecall, Ebreak}
use Rattle.isa_table.specs.declared.mnemonic.Mnemonic.TheVariants.{LoadReserved, StoreConditional}
use Rattle.isa_table.specs.declared.mnemonic.Mnemonic.TheVariants.{Amo}
use Rattle.isa_table.specs.declared.mnemonic.BranchOp.TheVariants.{Beq, Bne, Blt, Bge, Bltu, Bgeu}
use Rattle.isa_table.specs.declared.mnemonic.LoadOp.TheVariants.{Lb, Lh, Lw, Lbu, Lhu}
use Rattle.isa_table.specs.declared.mnemonic.StoreOp.TheVariants.{Sb, Sh, Sw}
use Rattle.isa_table.specs.declared.mnemonic.ImmediateOp.TheVariants.{Addi, Slti, Sltiu, Xori, Ori}
use Rattle.isa_table.specs.declared.mnemonic.ImmediateOp.TheVariants.{Andi}
use Rattle.isa_table.specs.declared.mnemonic.ShiftOp.TheVariants.{Slli, Srli, Srai}
use Rattle.isa_table.specs.declared.mnemonic.RegisterOp.TheVariants.{Add, Sub, Sll, Slt, Sltu, Xor}
use Rattle.isa_table.specs.declared.mnemonic.RegisterOp.TheVariants.{Srl, Sra, Or, And}
use Rattle.isa_table.specs.declared.mnemonic.AmoOp.TheVariants.{Amoswap, Amoadd, Amoxor, Amoand}
use Rattle.isa_table.specs.declared.mnemonic.AmoOp.TheVariants.{Amoor}
use Rattle.isa_table.specs.declared.mnemonic.AmoOp.TheVariants.{Amomin, Amomax, Amominu, Amomaxu}

-- the name of a mnemonic, in the characters of a source
abbrev pub name_of : Mnemonic → List ℕ
name_of Lui = codes "lui"
name_of Auipc = codes "auipc"
name_of Jal = codes "jal"
name_of Jalr = codes "jalr"
name_of (Branch Beq) = codes "beq"
name_of (Branch Bne) = codes "bne"
name_of (Branch Blt) = codes "blt"
name_of (Branch Bge) = codes "bge"
name_of (Branch Bltu) = codes "bltu"
name_of (Branch Bgeu) = codes "bgeu"
name_of (Load Lb) = codes "lb"
name_of (Load Lh) = codes "lh"
name_of (Load Lw) = codes "lw"
name_of (Load Lbu) = codes "lbu"
name_of (Load Lhu) = codes "lhu"
name_of (Store Sb) = codes "sb"
name_of (Store Sh) = codes "sh"
name_of (Store Sw) = codes "sw"
name_of (Immediate Addi) = codes "addi"
name_of (Immediate Slti) = codes "slti"
name_of (Immediate Sltiu) = codes "sltiu"
name_of (Immediate Xori) = codes "xori"
name_of (Immediate Ori) = codes "ori"
name_of (Immediate Andi) = codes "andi"
name_of (Shift Slli) = codes "slli"
name_of (Shift Srli) = codes "srli"
name_of (Shift Srai) = codes "srai"
name_of (Register Add) = codes "add"
name_of (Register Sub) = codes "sub"
name_of (Register Sll) = codes "sll"
name_of (Register Slt) = codes "slt"
name_of (Register Sltu) = codes "sltu"
name_of (Register Xor) = codes "xor"
name_of (Register Srl) = codes "srl"
name_of (Register Sra) = codes "sra"
name_of (Register Or) = codes "or"
name_of (Register And) = codes "and"
name_of Fence = codes "fence"
name_of Ecall = codes "ecall"
name_of Ebreak = codes "ebreak"
name_of LoadReserved = codes "lr.w"
name_of StoreConditional = codes "sc.w"
name_of (Amo Amoswap) = codes "amoswap.w"
name_of (Amo Amoadd) = codes "amoadd.w"
name_of (Amo Amoxor) = codes "amoxor.w"
name_of (Amo Amoand) = codes "amoand.w"
name_of (Amo Amoor) = codes "amoor.w"
name_of (Amo Amomin) = codes "amomin.w"
name_of (Amo Amomax) = codes "amomax.w"
name_of (Amo Amominu) = codes "amominu.w"
name_of (Amo Amomaxu) = codes "amomaxu.w"

-- the first of the mnemonics that has this name
unfoldable pub first_with_name : List Mnemonic → List ℕ → Option Mnemonic
first_with_name [] name = None
first_with_name (m ∷ ms) name = if bytes_eq (name_of m) name then Some m else first_with_name ms name
