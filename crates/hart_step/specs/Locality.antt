-- The state that a step depends on, and the memory that it changes.
use Rattle.std.specs.Prelude.{◌≡◌, ℕ, ◌+◌, ◌%◌, ◌<◌, ◌≤◌, Bool, true, false, ◌&&◌, nat_le, nat_lt, Option, Some, None}
use Rattle.mem_store.specs.Access.{fetched}
use Rattle.isa_table.specs.Decoded.{decoded}
use Rattle.isa_table.specs.declared.instr.Instr.{Instr}
use Rattle.isa_table.specs.declared.instr.Instr.TheVariants.{Lui, Auipc, Jal, Jalr, Branch, Load, Store, Immediate, Shift, Register, Fence, Ecall, Ebreak, LoadReserved, StoreConditional, Amo}
use Rattle.hart_step.specs.Hart.{Registers}
use Rattle.hart_step.specs.Values.{wrap, load_size, store_size}
use Rattle.hart_step.specs.Effect.{Site}
use Rattle.hart_step.specs.Step.{stepped}
use Rattle.hart_step.specs.declared.data_access.Access.{Access}
use Rattle.hart_step.specs.declared.data_access.AccessKind.{AccessKind}
use Rattle.hart_step.specs.declared.data_access.AccessKind.TheVariants as kinds
use Rattle.hart_step.specs.declared.hart.HartState.{HartState}
use Rattle.hart_step.specs.declared.hart.HartState.TheVariants.{Running, Exited, Faulted}

-- an access of these bytes
abbrev pub access : AccessKind → ℕ → ℕ → Option Access
access kind address size = Some (record { kind = kind; address = address; size = size })

-- the data access of an instruction, if any
abbrev pub access_by : Instr → Registers → Option Access
access_by (Lui rd imm) x = None
access_by (Auipc rd imm) x = None
access_by (Jal rd offset) x = None
access_by (Jalr rd rs1 imm) x = None
access_by (Branch op rs1 rs2 offset) x = None
access_by (Load op rd rs1 imm) x = access kinds.Load (wrap (x rs1 + imm)) (load_size op)
access_by (Store op rs1 rs2 imm) x = access kinds.Store (wrap (x rs1 + imm)) (store_size op)
access_by (Immediate op rd rs1 imm) x = None
access_by (Shift op rd rs1 amount) x = None
access_by (Register op rd rs1 rs2) x = None
access_by (Fence mode pred succ rs1 rd) x = None
access_by Ecall x = None
access_by Ebreak x = None
access_by (LoadReserved aq rl rd rs1) x = access kinds.LoadReserved (x rs1) 4
access_by (StoreConditional aq rl rd rs1 rs2) x = access kinds.StoreConditional (x rs1) 4
access_by (Amo op aq rl rd rs1 rs2) x = access kinds.Amo (x rs1) 4

-- the access of an instruction, or of a word that spells none
abbrev pub access_if : Option Instr → Registers → Option Access
access_if None x = None
access_if (Some i) x = access_by i x

-- the access of a fetched word, if the fetch succeeded
abbrev pub access_at : Option ℕ → Registers → Option Access
access_at None x = None
access_at (Some word) x = access_if (decoded word) x

-- the access of a hart in a state; a stopped hart has none
abbrev pub access_in : HartState → Site → Option Access
access_in Running s = access_at (fetched s.memory s.hart.pc) s.hart.registers
access_in (Exited status) s = None
access_in (Faulted cause) s = None

-- the data access of the hart's next step, if any
abbrev pub access_of : Site → Option Access
access_of s = access_in s.hart.state s

-- whether an address is in an access
abbrev pub is_inside : Option Access → ℕ → Bool
is_inside None a = false
is_inside (Some c) a = nat_le c.address a && nat_lt a (c.address + c.size)

-- the access, if there is one, is of bytes of one aligned word
abbrev pub IsInOneWord : Option Access → Type 0
IsInOneWord None = Unit {0}
IsInOneWord (Some c) = c.address % 4 + c.size ≤ 4

-- two sites agree in all that a step of hart h depends on: the hart, the rights, its own
-- reservation, the word that it fetches, at addresses modulo 2^32, and the bytes of its access
pub record Agrees (h : ℕ) (s t : Site) : Type 0 where
  pub hart : s.hart ≡ t.hart
  pub rights : s.memory.rights ≡ t.memory.rights
  pub reserved : s.reserved h ≡ t.reserved h
  pub fetched : (k : ℕ) → k < 4
      → s.memory.bytes (wrap (s.hart.pc + k)) ≡ t.memory.bytes (wrap (s.hart.pc + k))
  pub accessed : (a : ℕ) → is_inside (access_of s) a ≡ true → s.memory.bytes a ≡ t.memory.bytes a

-- two sites change alike: the new harts are the same, and so are the bytes of the access; no other
-- byte and no right has changed; a reservation that was the same in both is the same in both
pub record ChangesAlike (c : Option Access) (s t new_s new_t : Site) : Type 0 where
  pub hart : new_s.hart ≡ new_t.hart
  pub rights : (new_s.memory.rights ≡ s.memory.rights) × (new_t.memory.rights ≡ t.memory.rights)
  pub inside : (a : ℕ) → is_inside c a ≡ true → new_s.memory.bytes a ≡ new_t.memory.bytes a
  pub outside : (a : ℕ) → is_inside c a ≡ false
      → (new_s.memory.bytes a ≡ s.memory.bytes a) × (new_t.memory.bytes a ≡ t.memory.bytes a)
  pub reserved : (k : ℕ) → s.reserved k ≡ t.reserved k → new_s.reserved k ≡ new_t.reserved k

-- a step of hart h changes both sites alike
abbrev pub StepsAlike : ℕ → Bool → Site → Site → Type 0
StepsAlike h refuse s t = ChangesAlike (access_of s) s t (stepped h refuse s) (stepped h refuse t)
