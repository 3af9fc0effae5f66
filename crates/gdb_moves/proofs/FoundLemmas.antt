-- The least stop is what a search forwards finds.
use Rattle.std.proofs.Common.{◌≡◌, ℕ, zero, suc, ◌+◌, ◌-◌, ◌<◌, ◌≤◌, min, Option, Some, None, ◌⊎◌, inl, inr, ◌∙◌, sym, ap, refl, subst, arith, rules}
use Rattle.debug_session.specs.Searches.{IsLeastStop}
use Rattle.debug_session.specs.Session.{Found, found_or, first_found}

at_or_above : (i k : ℕ) → i < k → (i + 1 ≡ k) ⊎ (i + 1 < k)
at_or_above i k h = grind arith

-- a search that begins one choice later, behind one without a reason
least_on : {R : Type 0} (reason : ℕ → Option R) (i to k : ℕ) (why : Option R)
    → reason i ≡ None → i < to → IsLeastStop reason i to k why
    → IsLeastStop reason (i + 1) to k why
least_on reason i to k None none inside least =
    (least.0, λ j low high. least.1 j (omega (arith, low)) high)
least_on {R} reason i to k (Some w) none inside least = elim (at_or_above i k least.0) [
  | inl at ↦ absurd (let no : Some w ≡ None = sym (least.2 i at) ∙ none in
      search (rules, no))
  | inr above ↦ (above, least.1, least.2, λ j low high. least.3 j (omega (arith, low)) high)
]

-- a search that begins at a choice with a reason
least_here : {R : Type 0} (reason : ℕ → Option R) (i to k : ℕ) (why : Option R) (w : R)
    → reason i ≡ Some w → i < to → IsLeastStop reason i to k why
    → ◌≡◌ {A = Found R} (k, why) (i + 1, Some w)
least_here {R} reason i to k None w is inside least =
    absurd (let no : Some w ≡ None = sym is ∙ least.1 i (omega arith) inside in
    search (rules, no))
least_here {R} reason i to k (Some v) w is inside least = elim (at_or_above i k least.0) [
  | inl at ↦ (let same : Some v ≡ Some w = sym (least.2 i at) ∙ is in
      ap (λ (n : ℕ). (n, Some v)) (sym at) ∙ ap (λ (o : Option R). (i + 1, o)) same)
  | inr above ↦ absurd (let no : Some w ≡ None = sym is ∙ least.3 i (omega arith) above in
      search (rules, no))
]

-- one choice, and what is found behind it
found_at : {R : Type 0} (reason : ℕ → Option R) (i n k : ℕ) (why here : Option R)
    (later : Found R) → reason i ≡ here → IsLeastStop reason i (i + suc n) k why
    → (IsLeastStop reason (i + 1) (i + suc n) k why → (k, why) ≡ later)
    → (k, why) ≡ found_or (i + 1) here later
found_at reason i n k why None later is least found =
    found (least_on reason i (i + suc n) k why is (omega arith) least)
found_at reason i n k why (Some w) later is least found =
    least_here reason i (i + suc n) k why w is (omega arith) least

found_from : {R : Type 0} (reason : ℕ → Option R) (i n k : ℕ) (why : Option R)
    → IsLeastStop reason i (i + n) k why → (k, why) ≡ first_found reason i n
unfolding first_found
found_from {R} reason i zero k None least =
    let at : k ≡ i = omega (arith, least.0) in
    let end : ℕ → Found R = λ n. (n, None) in ap end at
found_from reason i zero k (Some w) least = absurd (omega (arith, least.0, least.1))
found_from reason i (suc n) k why least =
    let to : i + suc n ≡ i + 1 + n = omega arith in
    found_at reason i n k why (reason i) (first_found reason (i + 1) n) refl least
    (λ later. found_from reason (i + 1) n k why
    (subst (λ (t : ℕ). IsLeastStop reason (i + 1) t k why) to later))

-- a search begins behind the end
found_past : {R : Type 0} (reason : ℕ → Option R) (from to k : ℕ) (why : Option R) → to < from
    → IsLeastStop reason from to k why → (k, why) ≡ first_found reason to 0
unfolding first_found
found_past {R} reason from to k None past least =
    let end : ℕ → Found R = λ n. (n, None) in ap end least.0
found_past reason from to k (Some w) past least = absurd (omega (arith, past, least.0, least.1))

inside_or_past : (from to : ℕ) → (from ≤ to) ⊎ (to < from)
inside_or_past from to = grind arith

-- a least stop is what a search finds, also one that begins behind the end
pub found_least : {R : Type 0} (reason : ℕ → Option R) (from to k : ℕ) (why : Option R)
    → IsLeastStop reason from to k why
    → (k, why) ≡ first_found reason (min from to) (to - from)
found_least reason from to k why least = elim (inside_or_past from to) [
  | inl inside ↦ (let first : min from to ≡ from = omega (arith, inside) in
      let end : from + (to - from) ≡ to = omega (arith, inside) in
      rw first (found_from reason from (to - from) k why
      (subst (λ (t : ℕ). IsLeastStop reason from t k why) (sym end) least)))
  | inr past ↦ (let first : min from to ≡ to = omega (arith, past) in
      let none : to - from ≡ 0 = omega (arith, past) in
      rw (first, none) (found_past reason from to k why past least))
]
