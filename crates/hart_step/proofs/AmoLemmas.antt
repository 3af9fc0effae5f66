-- A writable byte can be loaded: where a word cannot be loaded it cannot be stored, for the same
-- reason.
use Rattle.std.proofs.Common.{refl, ◌≡◌, ℕ, zero, suc, ◌+◌, ◌*◌, ◌/◌, ◌%◌, Bool, true, false, eqb, cond, arith, Option, Some, None, Ok, Err, rules, ◌∙◌, sym, inl, inr, bit_and}
use Rattle.std.proofs.lemmas.Grind.{common_steps}
use Rattle.std.proofs.lemmas.Bool.{cases_Bool, false≢true}
use Rattle.std.proofs.lemmas.Nat.Bits.{and_pow}
use Rattle.std.proofs.lemmas.Nat.{and_mask}
use Rattle.mem_store.specs.Memory.{Memory, all_below, grants, granted, number_at}
use Rattle.mem_store.specs.Access.{loaded}
use Rattle.mem_store.specs.declared.store.AccessFault.{AccessFault}
use Rattle.mem_store.specs.declared.store.AccessFault.TheVariants as access
use Rattle.hart_step.specs.Fault.{store_fault, store_cause_of}
use Rattle.hart_step.specs.declared.hart.Cause.TheVariants.{StoreAccess, StoreMisaligned}

-- a byte with no right may not be written
pub no_write : (r : Option ℕ) → grants 7 r ≡ false → grants 2 r ≡ false
no_write None h = refl
no_write (Some rights) h = elim (cases_Bool (eqb (bit_and rights 7) 0)) [
  | inl none ↦ (let low : bit_and rights 7 ≡ 0 = search rules in
      let seven : bit_and rights 7 ≡ rights % 8 = and_mask rights 3 in
      let two : bit_and rights 2 ≡ rights / 2 % 2 * 2 = and_pow rights 1 in
      let zero_two : bit_and rights 2 ≡ 0 = omega (arith, low, seven, two) in
      rw zero_two)
  | inr some ↦ absurd (false≢true (sym h ∙ rw some))
]

-- if a test fails wherever another does, it fails for each range for which the other does
none_below : (n : ℕ) (p q : ℕ → Bool) → ((k : ℕ) → p k ≡ false → q k ≡ false)
    → all_below n p ≡ false → all_below n q ≡ false
none_below zero p q h e = e
none_below (suc n) p q h e = elim (cases_Bool (p n)) [
  | inl last ↦ rw (none_below n p q h (grind (arith, common_steps)))
  | inr last ↦ rw (h n last) (grind (arith, common_steps))
]

not_writable : (m : Memory) (n address : ℕ) → granted 7 m n address ≡ false → granted 2 m n address ≡ false
not_writable m n address e = none_below n _ _ (λ k. no_write (m.rights (address + k))) e

refused_in : (aligned may_load may_store : Bool) (number : ℕ) (why : AccessFault) → (may_load ≡ false → may_store ≡ false)
    → Err why ≡ cond aligned (cond may_load (Ok number) (Err access.Access)) (Err access.Misaligned)
    → cond aligned (cond may_store None (Some StoreAccess)) (Some StoreMisaligned) ≡ Some (store_cause_of why)
refused_in true true may_store number why h e = cc
refused_in true false may_store number why h e = rw (h refl) (let w : why ≡ access.Access = cc in rw w)
refused_in false may_load may_store number why h e = let w : why ≡ access.Misaligned = cc in rw w

pub store_fault-from_load : (m : Memory) (address : ℕ) (why : AccessFault) → Err why ≡ loaded m 4 address
    → store_fault m 4 address ≡ Some (store_cause_of why)
store_fault-from_load m address why e =
    refused_in (eqb (address % 4) 0) (granted 7 m 4 address) (granted 2 m 4 address) (number_at m.bytes 4 address) why
    (not_writable m 4 address) e
