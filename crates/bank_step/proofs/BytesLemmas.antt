-- What a store changes in a memory with given words.
use Rattle.std.proofs.Common.{◌≡◌, ℕ, suc, ◌+◌, ◌-◌, ◌/◌, ◌%◌, ◌^◌, ◌<◌, ◌≤◌, Bool, true, false, ◌&&◌, List, [], ◌∷◌, length, get_or, Option, Some, None, refl, ap, sym, ◌∙◌, arith, inl, inr}
use Rattle.std.specs.Prelude.{if◌then◌else◌, nat_le, nat_lt, slice_index, slice_set}
use Rattle.std.proofs.lemmas.Bool.{cases_Bool, and_parts, and_from, leb-true, ltb-true, le-leb, lt-ltb, ltb-false}
use Rattle.std.proofs.Math.Nat.{div-div-eq-div-mul, pow-suc}
use Rattle.mem_store.specs.Memory.{Memory, granted, to_write, stored}
use Rattle.mem_flat.specs.Blocks.{spelled, Puts}
use Rattle.mem_flat.proofs.WriteLemmas.{spelled_in, spelled_out}
use Rattle.bank_laws.specs.Words.{bytes_at, with_four}
use Rattle.bank_step.specs.declared.words.Word.{Word}
use Rattle.bank_step.specs.Told.{word_has_all, rights_told, told_memory, with_told}
use Rattle.bank_step.proofs.RightsLemmas.{write_same, write_outside, write_nowhere}

-- ---- one byte
inside_word : (first a : ℕ) (v : List ℕ) (b : ℕ → ℕ) → first ≤ a → a < first + 4 → with_four b first v a ≡ slice_index v (a - first)
inside_word first a v b low high = rw (and_from (nat_le first a) (nat_lt a (first + 4)) (le-leb first a low) (lt-ltb a (first + 4) high)) refl

pub four_of : (b : ℕ → ℕ) (x : ℕ) (v : List ℕ) → length v ≡ 4 → v ≡ bytes_at (with_four b x v) x
four_of b x (p ∷ q ∷ r ∷ s ∷ []) long =
    let v = p ∷ q ∷ r ∷ s ∷ [] in
    let at : (i : ℕ) → i < 4 → with_four b x v (x + i) ≡ slice_index v i
    = λ i low. inside_word x (x + i) v b (omega arith) (omega (arith, low)) ∙ ap (slice_index v) (let e : x + i - x ≡ i = omega arith in e) in
    let first : with_four b x v x ≡ p = inside_word x x v b (omega arith) (omega arith) ∙ ap (slice_index v) (let e : x - x ≡ 0 = omega arith in e) in
    λ i. sym first i ∷ sym (at 1 (omega arith)) i ∷ sym (at 2 (omega arith)) i ∷ sym (at 3 (omega arith)) i ∷ []
four_of b x [] long = absurd (omega (arith, long))
four_of b x (p ∷ []) long = absurd (omega (arith, long))
four_of b x (p ∷ q ∷ []) long = absurd (omega (arith, long))
four_of b x (p ∷ q ∷ r ∷ []) long = absurd (omega (arith, long))
four_of b x (p ∷ q ∷ r ∷ s ∷ t ∷ v) long = absurd (omega (arith, long))

stored_one : (n a v first x : ℕ) (w : List ℕ) (b : ℕ → ℕ) → first ≤ a → a + n ≤ first + 4 → length w ≡ 4
    → with_four b first (spelled n w (a - first) v) x ≡ stored n a v (with_four b first w) x
stored_one n a v first x w b low high long = go (nat_le a x && nat_lt x (a + n)) refl
  where
    out : (nat_le a x && nat_lt x (a + n)) ≡ false → (s : Bool) → (nat_le first x && nat_lt x (first + 4)) ≡ s
        → (if s then slice_index (spelled n w (a - first) v) (x - first) else b x) ≡ (if s then slice_index w (x - first) else b x)
    out e true f =
        let both = and_parts (nat_le first x) (nat_lt x (first + 4)) f in
        let above = leb-true first x both.0 in
        spelled_out n w (a - first) v (x - first) (λ after. elim (cases_Bool (nat_lt x (a + n))) [
          | inl below ↦ (let both2 : (nat_le a x && nat_lt x (a + n)) ≡ true = and_from (nat_le a x) (nat_lt x (a + n)) (le-leb a x (omega (arith, after, above, low))) below in cc (both2, e))
          | inr past ↦ (let far : a + n ≤ x = ltb-false x (a + n) past in omega (arith, far, low, above))
        ])
    out e false f = refl

    go : (t : Bool) → (nat_le a x && nat_lt x (a + n)) ≡ t
        → with_four b first (spelled n w (a - first) v) x ≡ (if t then v / 256 ^ (x - a) % 256 else with_four b first w x)
    go true e =
        let both = and_parts (nat_le a x) (nat_lt x (a + n)) e in
        let above = leb-true a x both.0 in
        let below = ltb-true x (a + n) both.1 in
        inside_word first x (spelled n w (a - first) v) b (omega (arith, above, low)) (omega (arith, below, high))
        ∙ ap (λ (i : ℕ). get_or (spelled n w (a - first) v) i 0) (let e : x - first ≡ a - first + (x - a) = omega (arith, above, low) in e)
        ∙ spelled_in n w (a - first) v (x - a) (omega (arith, long, high, low)) (omega (arith, below, above))
    go false e = out e (nat_le first x && nat_lt x (first + 4)) refl

-- ---- digits
pub spelled_none : (bytes : List ℕ) (o v : ℕ) → bytes ≡ spelled 0 bytes o v
spelled_none bytes o v = refl

pub spelled_next : (k : ℕ) (bytes xs : List ℕ) (o v rest : ℕ) → xs ≡ spelled k bytes o v → rest ≡ v / 256 ^ k
    → slice_set xs (o + k) (rest % 256) ≡ spelled (k + 1) bytes o v
spelled_next k bytes xs o v rest e f =
    let next : k + 1 ≡ suc k = omega arith in
    rw (next, e, f) refl

pub digit_next : (k v rest : ℕ) → rest ≡ v / 256 ^ k → rest / 256 ≡ v / 256 ^ (k + 1)
digit_next k v rest e =
    let next : k + 1 ≡ suc k = omega arith in
    ap (λ (r : ℕ). r / 256) e ∙ div-div-eq-div-mul v (256 ^ k) 256 ∙ ap (λ (p : ℕ). v / p) (sym (pow-suc 256 k) ∙ ap (λ (j : ℕ). 256 ^ j) (sym next))

-- ---- a store
pub puts_inside : (m : Memory) (code touched : Option Word) (w u : Word) (n a v : ℕ) → word_has_all w.address a n ≡ true → length w.bytes ≡ 4
    → u.address ≡ w.address → u.bytes ≡ spelled n w.bytes (a - w.address) v → granted to_write m n a ≡ true
    → Puts n a v (told_memory m code touched (Some w)) (told_memory m code touched (Some u)) true
puts_inside m code touched w u n a v e long same bytes given =
    let both = and_parts (nat_le w.address a) (nat_le (a + n) (w.address + 4)) e in
    let low = leb-true w.address a both.0 in
    let high = leb-true (a + n) (w.address + 4) both.1 in
    let base = with_told (with_told m.bytes code) touched in (
      sym (write_same m code touched w n a e) ∙ given,
      rw (same, bytes) (λ i. record {
        rights = rights_told m (Some w);
        bytes = λ x. stored_one n a v w.address x w.bytes base low high long i;
      }),
    )

pub puts_refused : (m : Memory) (code touched : Option Word) (w : Word) (n a v : ℕ) → word_has_all w.address a n ≡ true → granted to_write m n a ≡ false
    → Puts n a v (told_memory m code touched (Some w)) (told_memory m code touched (Some w)) false
puts_refused m code touched w n a v e given = (sym (write_same m code touched w n a e) ∙ given, refl)

pub puts_outside : (m : Memory) (code touched : Option Word) (w : Word) (n a v : ℕ) → 0 < n → word_has_all w.address a n ≡ false
    → Puts n a v (told_memory m code touched (Some w)) (told_memory m code touched (Some w)) false
puts_outside m code touched w n a v some e = (write_outside m code touched w n a some e, refl)

pub puts_nowhere : (m : Memory) (code touched : Option Word) (n a v : ℕ) → 0 < n → Puts n a v (told_memory m code touched None) (told_memory m code touched None) false
puts_nowhere m code touched n a v some = (write_nowhere m code touched n a some, refl)
