-- The step of a hart by the word at its pc.
use Rattle.std.proofs.Common.{◌≡◌, ℕ, Bool, Option, Some, None, Result, Ok, Err, OnOk, OnErr, refl, ap, sym, ◌∙◌, rules}
use Rattle.mem_store.specs.Access.{fetched}
use Rattle.mem_store.specs.Instruction.{or_illegal, instruction_in, instruction_at}
use Rattle.mem_store.specs.declared.store.FetchFault.{FetchFault}
use Rattle.mem_store.specs.declared.store.FetchFault.TheVariants as fetch
use Rattle.isa_table.specs.Decoded.{decoded}
use Rattle.isa_table.specs.declared.instr.Instr.{Instr}
use Rattle.hart_step.specs.Fault.{fetch_cause_of}
use Rattle.hart_step.specs.Effect.{Site}
use Rattle.hart_step.specs.Step.{faults, executed, at_word, by_state, stepped}
use Rattle.hart_step.specs.Wanting.{DoesStore, StepStores}
use Rattle.hart_step.specs.declared.hart.HartState.TheVariants.{Running}

-- ---- the word there
spells : (o : Option Instr) (i : Instr) → ◌≡◌ {A = Result Instr FetchFault} (Ok i) (or_illegal o) → o ≡ Some i
spells None i e = absurd (search rules)
spells (Some j) i e = (let same : j ≡ i = cc in ap Some same)

found : (o : Option ℕ) (i : Instr) → ◌≡◌ {A = Result Instr FetchFault} (Ok i) (instruction_in o) → (word : ℕ) × (o ≡ Some word) × (decoded word ≡ Some i)
found None i e = absurd (search rules)
found (Some word) i e = (word, refl, spells (decoded word) i e)

module _ (h : ℕ) (refuse : Bool) (s : Site) where
  by_instr : (i : Instr) → s.hart.state ≡ Running → Ok i ≡ instruction_at s.memory s.hart.pc
      → stepped h refuse s ≡ executed (Some i) s h refuse s.hart.registers s.hart.pc
  unfolding stepped instruction_at
  by_instr i runs there =
      let f = found (fetched s.memory s.hart.pc) i there in
      ap (λ state. by_state state s h refuse) runs
      ∙ ap (λ o. at_word o s h refuse s.hart.registers s.hart.pc) f.1
      ∙ ap (λ o. executed o s h refuse s.hart.registers s.hart.pc) f.2

  missing : (o : Option Instr) (why : FetchFault) → ◌≡◌ {A = Result Instr FetchFault} (Err why) (or_illegal o)
      → executed o s h refuse s.hart.registers s.hart.pc ≡ faults s (fetch_cause_of why)
  missing None why e = (let same : fetch.Illegal ≡ why = cc in ap (λ w. faults s (fetch_cause_of w)) same)
  missing (Some i) why e = absurd (search rules)

  unread : (o : Option ℕ) (why : FetchFault) → ◌≡◌ {A = Result Instr FetchFault} (Err why) (instruction_in o)
      → at_word o s h refuse s.hart.registers s.hart.pc ≡ faults s (fetch_cause_of why)
  unread None why e = (let same : fetch.Access ≡ why = cc in ap (λ w. faults s (fetch_cause_of w)) same)
  unread (Some word) why e = missing (decoded word) why e

  pub by_fault : (why : FetchFault) → s.hart.state ≡ Running → Err why ≡ instruction_at s.memory s.hart.pc
      → faults s (fetch_cause_of why) ≡ stepped h refuse s
  unfolding stepped instruction_at
  by_fault why runs there = sym (ap (λ state. by_state state s h refuse) runs ∙ unread (fetched s.memory s.hart.pc) why there)

-- ---- a step that was taken
pub step_taken : {T E : Type 0} (r : Result T E) (h : ℕ) (refuse : Bool) (s new : Site) (i : Instr)
    → s.hart.state ≡ Running → Ok i ≡ instruction_at s.memory s.hart.pc
    → OnOk r (new ≡ executed (Some i) s h refuse s.hart.registers s.hart.pc) → OnOk r (new ≡ stepped h refuse s)
step_taken (Ok value) h refuse s new i runs there done = done ∙ sym (by_instr h refuse s i runs there)
step_taken (Err why) h refuse s new i runs there done = done

-- the step of a hart whose instruction stores is one that stores
pub step_stores : {T E : Type 0} (r : Result T E) (h : ℕ) (refuse : Bool) (s : Site) (i : Instr)
    → s.hart.state ≡ Running → Ok i ≡ instruction_at s.memory s.hart.pc
    → OnErr r (DoesStore i s h refuse s.hart.registers) → OnErr r (StepStores h refuse s)
unfolding instruction_at
step_stores (Ok value) h refuse s i runs there stores = stores
step_stores (Err why) h refuse s i runs there stores =
    let f = found (fetched s.memory s.hart.pc) i there in
    record { runs = runs; word = f.0; instr = i; fetches = f.1; spells = f.2; stores = stores }
