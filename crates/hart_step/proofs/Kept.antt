-- What no step changes: the rights, and the bytes that are not writable.
use Rattle.std.proofs.Common.{◌≡◌, ℕ, zero, suc, ◌+◌, ◌-◌, ◌%◌, ◌<◌, Bool, true, false, not, ◌&&◌, cond, eqb, leb, ltb, Option, Some, None, refl, sym, ap, ◌∙◌, ◌⊎◌, inl, inr, arith}
use Rattle.std.proofs.lemmas.Bool.{cases_Bool, false≢true}
use Rattle.std.proofs.lemmas.Bool.Decides.{nat_tests}
use Rattle.mem_store.specs.Memory.{Memory, to_write, grants, all_below, granted, stored, number_at}
use Rattle.mem_store.specs.Access.{written, fetched}
use Rattle.hart_reservations.specs.Marks.{names}
use Rattle.isa_table.specs.Decoded.{decoded}
use Rattle.isa_table.specs.declared.instr.Instr.{Instr}
use Rattle.isa_table.specs.declared.instr.Instr.TheVariants.{Store, StoreConditional, Amo}
use Rattle.hart_step.specs.Hart.{Registers}
use Rattle.hart_step.specs.Values.{wrap, store_size, amo_result}
use Rattle.hart_step.specs.Fault.{fault, store_fault}
use Rattle.hart_step.specs.Effect.{Site, effect, conditional}
use Rattle.hart_step.specs.Step.{unless, executed, at_word, by_state, stepped}
use Rattle.hart_step.specs.Laws.{Keeps}
use Rattle.hart_step.specs.declared.hart.Cause.{Cause}
use Rattle.hart_step.specs.declared.hart.Cause.TheVariants.{StoreAccess, StoreMisaligned}
use Rattle.hart_step.specs.declared.hart.HartState.{HartState}
use Rattle.hart_step.specs.declared.hart.HartState.TheVariants.{Running, Exited, Faulted}

pub keeps-same : (m : Memory) → Keeps m m
keeps-same m = record { rights = refl; bytes = λ a e. refl }

-- a test that each number below n passes
each_below : (n : ℕ) (test : ℕ → Bool) → all_below n test ≡ true → (k : ℕ) → k < n → test k ≡ true
each_below zero test e k below = absurd (omega arith)
each_below (suc n) test e k below = elim (cases_Bool (eqb k n)) [
  | inl last ↦ (let same : k ≡ n = grind (arith, nat_tests) in ap test same ∙ grind (arith, nat_tests, e))
  | inr earlier ↦ (let lower : k < n = grind (arith, nat_tests) in each_below n test (grind (arith, nat_tests, e)) k lower)
]

store_is_granted : (m : Memory) (n address : ℕ) → store_fault m n address ≡ None → granted to_write m n address ≡ true
store_is_granted m n address e = go (eqb (address % n) 0) (granted to_write m n address) refl e
  where
    go : (aligned every : Bool) → granted to_write m n address ≡ every →
        cond aligned (cond every None (Some StoreAccess)) (Some StoreMisaligned) ≡ None → granted to_write m n address ≡ true
    go true true p q = p
    go true false p q = absurd (let r : ◌≡◌ {A = Option Cause} (Some StoreAccess) None = q in cc)
    go false every p q = absurd (let r : ◌≡◌ {A = Option Cause} (Some StoreMisaligned) None = q in cc)

-- a store that is granted keeps what may not be written
keeps-written : (m : Memory) (n address value : ℕ) → store_fault m n address ≡ None → Keeps m (written n address value m)
keeps-written m n address value e = record { rights = refl; bytes = λ a shut. outside a shut (cases_Bool (leb address a && ltb a (address + n))) }
  where
    outside : (a : ℕ) → grants to_write (m.rights a) ≡ false
        → ((leb address a && ltb a (address + n)) ≡ true) ⊎ ((leb address a && ltb a (address + n)) ≡ false)
        → stored n address value m.bytes a ≡ m.bytes a
    outside a shut (inl in_range) = absurd (
        let k : a - address < n = grind (arith, nat_tests) in
        let here : address + (a - address) ≡ a = grind (arith, nat_tests) in
        let open_there = each_below n (λ j. grants to_write (m.rights (address + j))) (store_is_granted m n address e) (a - address) k in
        false≢true (sym shut ∙ (rw here at open_there)))
    outside a shut (inr out) = rw out refl

keeps-conditional : (succeeds : Bool) (s : Site) (h : ℕ) (x : Registers) (pc rd address value : ℕ)
    → store_fault s.memory 4 address ≡ None → Keeps s.memory (conditional succeeds s h x pc rd address value).memory
keeps-conditional true s h x pc rd address value e = keeps-written s.memory 4 address value e
keeps-conditional false s h x pc rd address value e = keeps-same s.memory

keeps-effect : (i : Instr) (s : Site) (h : ℕ) (refuse : Bool) (x : Registers) (pc : ℕ)
    → fault i s.memory x pc ≡ None → Keeps s.memory (effect i s h refuse x pc).memory
keeps-effect (Store op rs1 rs2 imm) s h refuse x pc e = keeps-written s.memory (store_size op) (wrap (x rs1 + imm)) (x rs2) e
keeps-effect (Amo op aq rl rd rs1 rs2) s h refuse x pc e =
    keeps-written s.memory 4 (x rs1) (amo_result op (number_at s.memory.bytes 4 (x rs1)) (x rs2)) e
keeps-effect (StoreConditional aq rl rd rs1 rs2) s h refuse x pc e =
    keeps-conditional (names (s.reserved h) (x rs1) && not refuse) s h x pc rd (x rs1) (x rs2) e
keeps-effect i s h refuse x pc e = keeps-same s.memory

keeps-executed : (o : Option Instr) (s : Site) (h : ℕ) (refuse : Bool) (x : Registers) (pc : ℕ)
    → Keeps s.memory (executed o s h refuse x pc).memory
keeps-executed None s h refuse x pc = keeps-same s.memory
keeps-executed (Some i) s h refuse x pc = go (fault i s.memory x pc) refl
  where
    go : (c : Option Cause) → fault i s.memory x pc ≡ c → Keeps s.memory (unless c s (effect i s h refuse x pc)).memory
    go None e = keeps-effect i s h refuse x pc e
    go (Some cause) e = keeps-same s.memory

keeps-word : (o : Option ℕ) (s : Site) (h : ℕ) (refuse : Bool) (x : Registers) (pc : ℕ)
    → Keeps s.memory (at_word o s h refuse x pc).memory
keeps-word None s h refuse x pc = keeps-same s.memory
keeps-word (Some word) s h refuse x pc = keeps-executed (decoded word) s h refuse x pc

keeps-state : (state : HartState) (s : Site) (h : ℕ) (refuse : Bool) → Keeps s.memory (by_state state s h refuse).memory
keeps-state Running s h refuse = keeps-word (fetched s.memory s.hart.pc) s h refuse s.hart.registers s.hart.pc
keeps-state (Exited status) s h refuse = keeps-same s.memory
keeps-state (Faulted cause) s h refuse = keeps-same s.memory

pub stepped-keeps : (h : ℕ) (refuse : Bool) (s : Site) → Keeps s.memory (stepped h refuse s).memory
unfolding stepped
stepped-keeps h refuse s = keeps-state s.hart.state s h refuse
