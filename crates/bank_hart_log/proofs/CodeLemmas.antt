-- The rights and the bytes of code, in the memory that has it.
use Rattle.std.proofs.Common.{◌≡◌, ℕ, zero, suc, ◌+◌, ◌*◌, ◌^◌, Bool, true, false, not, ◌&&◌, Option, Some, None, refl, ap, ap₂, sym, ◌∙◌}
use Rattle.std.specs.Prelude.{if◌then◌else◌}
use Rattle.std.proofs.lemmas.Bool.{and_parts}
use Rattle.mem_store.specs.Memory.{Memory, grants, granted, all_below, number_at, around, to_execute, to_write}
use Rattle.mem_store.specs.Access.{fetched}
use Rattle.hart_local.specs.CodeMemory.{is_code, code_in}
use Rattle.bank_laws.specs.Table.{is_unwritable}

code_shut : (o : Option ℕ) → grants to_execute (if is_code o then o else None) ≡ true → not (grants to_write o) ≡ true
code_shut o e = go (is_code o) refl e
  where
    go : (b : Bool) → is_code o ≡ b → grants to_execute (if b then o else None) ≡ true → not (grants to_write o) ≡ true
    go true p q = (and_parts (grants to_execute o) (not (grants to_write o)) p).1
    go false p q = cc q

code_byte : (o : Option ℕ) (b : ℕ) → grants to_execute (if is_code o then o else None) ≡ true
    → (grants to_execute o ≡ true) × ((if is_code o then b else 0) ≡ b)
code_byte o b e = go (is_code o) refl e
  where
    go : (t : Bool) → is_code o ≡ t → grants to_execute (if t then o else None) ≡ true → (grants to_execute o ≡ true) × ((if t then b else 0) ≡ b)
    go true p q = (q, refl)
    go false p q = cc q

shut : (m : Memory) (n pc : ℕ) → granted to_execute (code_in m) n pc ≡ true → all_below n (λ k. not (grants to_write (m.rights (pc + k)))) ≡ true
unfolding code_in
shut m zero pc e = refl
shut m (suc n) pc e =
    let both = and_parts (granted to_execute (code_in m) n pc) (grants to_execute ((code_in m).rights (pc + n))) e in
    ap₂ (λ (a b : Bool). a && b) (shut m n pc both.0) (code_shut (m.rights (pc + n)) both.1)

same_word : (m : Memory) (n pc : ℕ) → granted to_execute (code_in m) n pc ≡ true
    → (granted to_execute m n pc ≡ true) × (number_at (code_in m).bytes n pc ≡ number_at m.bytes n pc)
unfolding code_in
same_word m zero pc e = (refl, refl)
same_word m (suc n) pc e =
    let both = and_parts (granted to_execute (code_in m) n pc) (grants to_execute ((code_in m).rights (pc + n))) e in
    let rest = same_word m n pc both.0 in
    let last = code_byte (m.rights (pc + n)) (m.bytes (pc + n)) both.1 in (
      ap₂ (λ (a b : Bool). a && b) rest.0 last.0,
      ap₂ (λ (a b : ℕ). a + b * 256 ^ n) rest.1 last.1,
    )

-- ---- the word of code at an address
code_grants : (o : Option ℕ) → grants to_execute (if is_code o then o else None) ≡ (grants to_execute o && not (grants to_write o))
code_grants o = go (is_code o) refl
  where
    go : (b : Bool) → is_code o ≡ b → grants to_execute (if b then o else None) ≡ (grants to_execute o && not (grants to_write o))
    go true p = (and_parts (grants to_execute o) (not (grants to_write o)) p).0 ∙ sym p
    go false p = sym p

and_mix : (a b c d : Bool) → ((a && b) && (c && d)) ≡ ((a && c) && (b && d))
and_mix false b c d = refl
and_mix true true c d = refl
and_mix true false true d = refl
and_mix true false false d = refl

granted_code : (m : Memory) (n pc : ℕ)
    → granted to_execute (code_in m) n pc ≡ (granted to_execute m n pc && all_below n (λ k. not (grants to_write (m.rights (pc + k)))))
unfolding code_in
granted_code m zero pc = refl
granted_code m (suc n) pc =
    ap₂ (λ (a b : Bool). a && b) (granted_code m n pc) (code_grants (m.rights (pc + n)))
    ∙ and_mix (granted to_execute m n pc) (all_below n (λ k. not (grants to_write (m.rights (pc + k))))) (grants to_execute (m.rights (pc + n)))
    (not (grants to_write (m.rights (pc + n))))

word_of : (m : Memory) (pc : ℕ)
    → (if granted to_execute (code_in m) 4 pc then Some (number_at (code_in m).bytes 4 pc) else None)
    ≡ (if granted to_execute m 4 pc && all_below 4 (λ k. not (grants to_write (m.rights (pc + k)))) then Some (number_at m.bytes 4 pc) else None)
word_of m pc =
    go (granted to_execute (code_in m) 4 pc) refl
    ∙ ap (λ (b : Bool). if b then Some (number_at m.bytes 4 pc) else None) (granted_code m 4 pc)
  where
    go : (b : Bool) → granted to_execute (code_in m) 4 pc ≡ b
        → (if b then Some (number_at (code_in m).bytes 4 pc) else None) ≡ (if b then Some (number_at m.bytes 4 pc) else None)
    go true p = ap Some (same_word m 4 pc p).1
    go false p = refl

-- ---- the same with addresses modulo 2^32
pub shut_around : (m : Memory) (pc : ℕ) → granted to_execute (around (code_in m)) 4 pc ≡ true → is_unwritable m pc ≡ true
unfolding code_in
shut_around m pc e = shut (around m) 4 pc e

pub word_around : (m : Memory) (pc : ℕ) → granted to_execute (around (code_in m)) 4 pc ≡ true
    → (granted to_execute (around m) 4 pc ≡ true) × (number_at (around (code_in m)).bytes 4 pc ≡ number_at (around m).bytes 4 pc)
unfolding code_in
word_around m pc e = same_word (around m) 4 pc e

pub code_word_is : (m : Memory) (pc : ℕ)
    → fetched (code_in m) pc ≡ (if granted to_execute (around m) 4 pc && is_unwritable m pc then Some (number_at (around m).bytes 4 pc) else None)
unfolding code_in
code_word_is m pc = word_of (around m) pc
