-- The steps that store: only they may allocate memory of the host.
use Rattle.std.specs.Prelude.{◌≡◌, ℕ, ◌+◌, Bool, true, not, ◌&&◌, Some, None}
use Rattle.mem_store.specs.Access.{fetched}
use Rattle.hart_reservations.specs.Marks.{names}
use Rattle.isa_table.specs.Decoded.{decoded}
use Rattle.isa_table.specs.declared.instr.Instr.{Instr}
use Rattle.isa_table.specs.declared.instr.Instr.TheVariants.{Store, StoreConditional, Amo}
use Rattle.hart_step.specs.Hart.{Registers}
use Rattle.hart_step.specs.Values.{wrap, store_size}
use Rattle.hart_step.specs.Fault.{store_fault}
use Rattle.hart_step.specs.Effect.{Site}
use Rattle.hart_step.specs.declared.hart.HartState.TheVariants.{Running}

-- an instruction of hart h, which has registers x, stores: a store or an AMO without a fault, or a
-- store-conditional without a fault that succeeds
abbrev pub DoesStore : Instr → Site → ℕ → Bool → Registers → Type 0
DoesStore (Store op rs1 rs2 imm) s h refuse x = store_fault s.memory (store_size op) (wrap (x rs1 + imm)) ≡ None
DoesStore (Amo op aq rl rd rs1 rs2) s h refuse x = store_fault s.memory 4 (x rs1) ≡ None
DoesStore (StoreConditional aq rl rd rs1 rs2) s h refuse x =
    (store_fault s.memory 4 (x rs1) ≡ None) × ((names (s.reserved h) (x rs1) && not refuse) ≡ true)
DoesStore i s h refuse x = ⊥

-- hart h runs, and the word at its pc is an instruction that stores
pub record StepStores (h : ℕ) (refuse : Bool) (s : Site) : Type 0 where
  pub runs : s.hart.state ≡ Running
  pub word : ℕ
  pub instr : Instr
  pub fetches : fetched s.memory s.hart.pc ≡ Some word
  pub spells : decoded word ≡ Some instr
  pub stores : DoesStore instr s h refuse s.hart.registers
