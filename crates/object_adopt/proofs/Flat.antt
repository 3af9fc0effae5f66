-- The data words of several objects, by object and by place in it: 128 words each, behind so many
-- words that are no object's and are 0.
use Rattle.std.proofs.Common.{◌≡◌, ◌≢◌, ℕ, ◌+◌, ◌-◌, ◌*◌, ◌/◌, ◌%◌, ◌<◌, ◌≤◌, Bool, true, false, nat_lt, if◌then◌else◌, ◌==◌, refl, ap, ◌⊎◌, inl, inr, arith, eq-eqb, ne_eqb, le-ltb, lt-ltb}
use Rattle.object_library.proofs.Shape.{with_word}
use Rattle.object_library.proofs.Harts.{same_or_not}

abbrev pub flat : ℕ → (ℕ → ℕ → ℕ) → ℕ → ℕ
flat shift words k = if nat_lt k shift then 0 else words ((k - shift) / 128) ((k - shift) % 128)

-- one of the objects changes
abbrev pub at_round : {A : Type 0} → (ℕ → A) → ℕ → A → ℕ → A
at_round f r a s = if s == r then a else f s

under_or_not : (j shift : ℕ) → (j < shift) ⊎ (shift ≤ j)
under_or_not j shift = grind arith

behind : (j shift : ℕ) → shift ≤ j → nat_lt j shift ≡ false
behind j shift le = le-ltb j shift le

pub flat_at : (shift : ℕ) (words : ℕ → ℕ → ℕ) (r q k : ℕ) → q < 128 → k ≡ shift + (128 * r + q) → flat shift words k ≡ words r q
flat_at shift words r q k small e =
    let a : (k - shift) / 128 ≡ r = omega arith in
    let b : (k - shift) % 128 ≡ q = omega arith in
    rw (behind k shift (omega arith), a, b)

pub flat_with : (shift : ℕ) (words : ℕ → ℕ → ℕ) (r q k v : ℕ) → q < 128 → k ≡ shift + (128 * r + q) →
    with_word (flat shift words) k v ≡ flat shift (at_round words r (with_word (words r) q v))
flat_with shift words r q k v small e = λ i j. each j (under_or_not j shift) (same_or_not ((j - shift) / 128) r) (same_or_not ((j - shift) % 128) q) i
  where
    each : (j : ℕ) → (j < shift) ⊎ (shift ≤ j) → ((j - shift) / 128 ≡ r) ⊎ ((j - shift) / 128 ≢ r) → ((j - shift) % 128 ≡ q) ⊎ ((j - shift) % 128 ≢ q) →
        with_word (flat shift words) k v j ≡ flat shift (at_round words r (with_word (words r) q v)) j
    each j (inl u) a b = rw (ne_eqb j k (λ c. absurd (omega arith)), lt-ltb j shift u)
    each j (inr o) (inl a) (inl b) = rw (eq-eqb j k (omega arith), behind j shift o, eq-eqb ((j - shift) / 128) r a, eq-eqb ((j - shift) % 128) q b)
    each j (inr o) (inl a) (inr b) =
        rw (ne_eqb j k (λ c. b (omega arith)), behind j shift o, eq-eqb ((j - shift) / 128) r a, ne_eqb ((j - shift) % 128) q b)
        (ap (λ (s : ℕ). words s ((j - shift) % 128)) a)
    each j (inr o) (inr a) b = rw (ne_eqb j k (λ c. a (omega arith)), behind j shift o, ne_eqb ((j - shift) / 128) r a)

-- where all words are 0
pub flat_zero : (shift : ℕ) → ◌≡◌ {A = ℕ → ℕ} (λ k. 0) (flat shift (λ s k. 0))
flat_zero shift = λ i k. both (nat_lt k shift) i
  where
    both : (b : Bool) → ◌≡◌ {A = ℕ} 0 (if b then 0 else 0)
    both true = refl
    both false = refl
