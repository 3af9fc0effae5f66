-- What each step keeps.
use Rattle.std.specs.Prelude.{◌≡◌, ℕ, ◌%◌, false}
use Rattle.mem_store.specs.Memory.{Memory, grants, to_write}
use Rattle.hart_step.specs.Hart.{HartValue}

-- all rights are the same, and so is each byte that is not writable
pub record Keeps (old new : Memory) : Type 0 where
  pub rights : new.rights ≡ old.rights
  pub bytes : (a : ℕ) → grants to_write (old.rights a) ≡ false → new.bytes a ≡ old.bytes a

-- the next instruction is at a multiple of 4
abbrev pub IsAligned : HartValue → Type 0
IsAligned h = h.pc % 4 ≡ 0

-- register 0 reads 0
abbrev pub HasZero : HartValue → Type 0
HasZero h = h.registers 0 ≡ 0
