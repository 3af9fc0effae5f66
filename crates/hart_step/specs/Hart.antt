-- A hart as contracts see it.
use Rattle.std.specs.Prelude.{ℕ, not, ◌&&◌, ◌==◌, if◌then◌else◌, List, slice_index}
use Rattle.hart_step.specs.declared.hart.Hart.{Hart}
use Rattle.hart_step.specs.declared.hart.HartState.{HartState}

-- the value of each register
abbrev pub Registers : Type 0
Registers = ℕ → ℕ

-- the registers, the address of the next instruction, and whether the hart runs
pub record HartValue : Type 0 where
  pub registers : Registers
  pub pc : ℕ
  pub state : HartState

-- the registers of an array
abbrev pub registers_of : List ℕ → Registers
registers_of words r = slice_index words r

-- a hart of the code as contracts see it
abbrev pub hart_of : Hart → HartValue
hart_of h = record { registers = registers_of h.registers; pc = h.pc; state = h.state }

-- rd gets a value; x0 stays 0 (Unprivileged ISA, "Programmers' Model for Base Integer ISA")
abbrev pub put : Registers → ℕ → ℕ → Registers
put x rd value r = if r == rd && not (rd == 0) then value else x r
