-- The register that gets an instruction's result.
use Rattle.std.specs.Prelude.{ℕ, ◌==◌, if◌then◌else◌, Option, Some, None}
use Rattle.isa_table.specs.declared.instr.Instr.{Instr}
use Rattle.isa_table.specs.declared.instr.Instr.TheVariants.{Lui, Auipc, Jal, Jalr, Branch, Load, Store, Immediate, Shift, Register, Fence, Ecall, Ebreak, LoadReserved, StoreConditional, Amo}

-- a register, but x0, which ignores what is written to it (Unprivileged ISA, "Programmers' Model
-- for Base Integer ISA")
abbrev pub unless_zero : ℕ → Option ℕ
unless_zero rd = if rd == 0 then None else Some rd

-- the register that an instruction writes, if it writes one. That of a fence is reserved for finer
-- fences, and isn't written (Unprivileged ISA, "Memory Ordering Instructions")
abbrev pub destination : Instr → Option ℕ
destination (Lui rd imm) = unless_zero rd
destination (Auipc rd imm) = unless_zero rd
destination (Jal rd offset) = unless_zero rd
destination (Jalr rd rs1 imm) = unless_zero rd
destination (Branch op rs1 rs2 offset) = None
destination (Load op rd rs1 imm) = unless_zero rd
destination (Store op rs1 rs2 imm) = None
destination (Immediate op rd rs1 imm) = unless_zero rd
destination (Shift op rd rs1 amount) = unless_zero rd
destination (Register op rd rs1 rs2) = unless_zero rd
destination (Fence mode pred succ rs1 rd) = None
destination Ecall = None
destination Ebreak = None
destination (LoadReserved aq rl rd rs1) = unless_zero rd
destination (StoreConditional aq rl rd rs1 rs2) = unless_zero rd
destination (Amo op aq rl rd rs1 rs2) = unless_zero rd
