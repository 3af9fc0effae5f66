-- The rights to bytes of a memory with given words.
use Rattle.std.proofs.Common.{◌≡◌, ℕ, zero, suc, ◌+◌, ◌-◌, ◌*◌, ◌/◌, ◌%◌, ◌^◌, ◌<◌, ◌≤◌, Bool, true, false, ◌&&◌, eqb, Option, Some, None, refl, ap₂, sym, ◌∙◌, arith, rules, bit_and, inl, inr, ⊎_elim}
use Rattle.std.specs.Prelude.{if◌then◌else◌, nat_le, nat_lt}
use Rattle.std.proofs.lemmas.Bool.{cases_Bool, false≢true, and_parts, and_from, and_left, and_right, leb-true, lt-leb, le-ltb, le-leb, lt-ltb, cases_lt}
use Rattle.std.proofs.lemmas.Nat.Bits.{and_pow}
use Rattle.std.proofs.lemmas.Nat.{and_mask}
use Rattle.mem_store.specs.Memory.{Memory, to_execute, to_load, to_write, grants, all_below, granted, around}
use Rattle.mem_flat.proofs.ReadLemmas.{all_below_fails}
use Rattle.bank_step.specs.declared.words.Word.{Word}
use Rattle.bank_step.specs.Told.{is_in_word, word_has_all, without_write, rights_told, told_memory}

-- ---- rights of one byte
-- what may be written may be loaded
load_where_write : (r : ℕ) → grants to_write (Some r) ≡ true → grants to_load (Some r) ≡ true
load_where_write r h = elim (cases_Bool (eqb (bit_and r 7) 0)) [
  | inl none ↦ (let low : bit_and r 7 ≡ 0 = search rules in
      let seven : bit_and r 7 ≡ r % 8 = and_mask r 3 in
      let two : bit_and r 2 ≡ r / 2 % 2 * 2 = and_pow r 1 in
      let zero_two : bit_and r 2 ≡ 0 = omega (arith, low, seven, two) in
      absurd (false≢true (sym (rw zero_two refl) ∙ h)))
  | inr some ↦ rw some refl
]

no_write : (o : Option ℕ) → grants to_write (without_write o) ≡ false
no_write None = refl
no_write (Some r) = go (grants to_write (Some r)) (grants to_execute (Some r)) refl
  where
    go : (t s : Bool) → grants to_write (Some r) ≡ t → grants to_write (Some (if t then (if s then 5 else 4) else r)) ≡ false
    go true true e = refl
    go true false e = refl
    go false s e = e

execute_stays : (o : Option ℕ) → grants to_execute (without_write o) ≡ grants to_execute o
execute_stays None = refl
execute_stays (Some r) = go (grants to_write (Some r)) (grants to_execute (Some r)) refl
  where
    go : (t s : Bool) → grants to_execute (Some r) ≡ s → grants to_execute (Some (if t then (if s then 5 else 4) else r)) ≡ grants to_execute (Some r)
    go true true e = sym e
    go true false e = sym e
    go false s e = refl

load_stays : (o : Option ℕ) → grants to_load (without_write o) ≡ grants to_load o
load_stays None = refl
load_stays (Some r) = go (grants to_write (Some r)) (grants to_execute (Some r)) refl
  where
    go : (t s : Bool) → grants to_write (Some r) ≡ t → grants to_load (Some (if t then (if s then 5 else 4) else r)) ≡ grants to_load (Some r)
    go true true e = sym (load_where_write r e)
    go true false e = sym (load_where_write r e)
    go false s e = refl

either_way : (wanted : ℕ) (b : Bool) (o : Option ℕ) → grants wanted (without_write o) ≡ grants wanted o → grants wanted (if b then o else without_write o) ≡ grants wanted o
either_way wanted true o e = refl
either_way wanted false o e = e

-- ---- rights of several bytes
pub all_same : (n : ℕ) (f g : ℕ → Bool) → ((k : ℕ) → k < n → f k ≡ g k) → all_below n f ≡ all_below n g
all_same zero f g e = refl
all_same (suc n) f g e = ap₂ (λ (a b : Bool). a && b) (all_same n f g (λ k low. e k (omega (arith, low)))) (e n (omega arith))

pub execute_same : (m : Memory) (code touched target : Option Word) (n a : ℕ)
    → granted to_execute (around m) n a ≡ granted to_execute (around (told_memory m code touched target)) n a
execute_same m code touched target n a =
    all_same n _ _ (λ k low. sym (either_way to_execute (is_in_word target ((a + k) % 2 ^ 32)) (m.rights ((a + k) % 2 ^ 32))
    (execute_stays (m.rights ((a + k) % 2 ^ 32)))))

pub load_same : (m : Memory) (code touched target : Option Word) (n a : ℕ) → granted to_load m n a ≡ granted to_load (told_memory m code touched target) n a
load_same m code touched target n a =
    all_same n _ _ (λ k low. sym (either_way to_load (is_in_word target (a + k)) (m.rights (a + k)) (load_stays (m.rights (a + k)))))

inside : (first a n k : ℕ) → word_has_all first a n ≡ true → k < n → (nat_le first (a + k) && nat_lt (a + k) (first + 4)) ≡ true
inside first a n k e low =
    let both = and_parts (nat_le first a) (nat_le (a + n) (first + 4)) e in
    let above = leb-true first a both.0 in
    let below = leb-true (a + n) (first + 4) both.1 in
    and_from (nat_le first (a + k)) (nat_lt (a + k) (first + 4)) (le-leb first (a + k) (omega (arith, above))) (lt-ltb (a + k) (first + 4) (omega (arith, below, low)))

-- inside the writable word the image's write rights hold
pub write_same : (m : Memory) (code touched : Option Word) (w : Word) (n a : ℕ) → word_has_all w.address a n ≡ true
    → granted to_write m n a ≡ granted to_write (told_memory m code touched (Some w)) n a
write_same m code touched w n a e =
    all_same n _ _ (λ k low. rw (inside w.address a n k e low) refl)

-- none elsewhere
outside_one : (m : Memory) (target : Option Word) (x : ℕ) → is_in_word target x ≡ false → grants to_write (rights_told m target x) ≡ false
outside_one m target x e = rw e (no_write (m.rights x))

pub write_outside : (m : Memory) (code touched : Option Word) (w : Word) (n a : ℕ) → 0 < n → word_has_all w.address a n ≡ false
    → granted to_write (told_memory m code touched (Some w)) n a ≡ false
write_outside m code touched w n a some e =
    ⊎_elim
    (λ (l : a < w.address). all_below_fails n 0 _ some (outside_one m (Some w) (a + 0) (and_left (nat_le w.address (a + 0)) (nat_lt (a + 0) (w.address + 4)) (lt-leb w.address (a + 0) (omega (arith, l))))))
    (λ (l : w.address ≤ a).
    ⊎_elim
    (λ (h : w.address + 4 < a + n). all_below_fails n (n - 1) _ (omega (arith, some)) (outside_one m (Some w) (a + (n - 1)) (and_right (nat_le w.address (a + (n - 1))) (nat_lt (a + (n - 1)) (w.address + 4)) (le-ltb (a + (n - 1)) (w.address + 4) (omega (arith, h, some))))))
    (λ (h : a + n ≤ w.address + 4). absurd (false≢true (sym e ∙ and_from (nat_le w.address a) (nat_le (a + n) (w.address + 4)) (le-leb w.address a l) (le-leb (a + n) (w.address + 4) h))))
    (cases_lt (w.address + 4) (a + n)))
    (cases_lt a w.address)

pub write_nowhere : (m : Memory) (code touched : Option Word) (n a : ℕ) → 0 < n → granted to_write (told_memory m code touched None) n a ≡ false
write_nowhere m code touched n a some = all_below_fails n 0 _ some (outside_one m None (a + 0) refl)
