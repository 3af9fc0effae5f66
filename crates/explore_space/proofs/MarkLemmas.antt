-- Harts that are marked as chosen, and a choice of each of them.
use Rattle.std.proofs.Common.{◌≡◌, ◌≢◌, ℕ, zero, suc, ◌+◌, ◌<◌, ◌≤◌, ltb, eqb, cond, Bool, true, false, ◌&&◌, ◌||◌, List, [], ◌∷◌, ◌++◌, refl, ap, sym, subst, ◌∙◌, arith, eq-eqb, inl, inr, ◌⊎◌}
use Rattle.std.proofs.lemmas.Bool.{cases_eq, cases_lt, ne_eqb, lt-ltb, le-ltb}
use Rattle.sched_run.proofs.ChosenLemmas.{any-append, or-none}
use Rattle.machine.specs.Chosen.{is_chosen}
use Rattle.machine.specs.declared.choice.Choice.{Choice}
use Rattle.explore_search.proofs.SearchLemmas.{below_or}
use Rattle.explore_space.specs.Failing.{one_each}
use Rattle.explore_space.specs.Places.{chosen_by_key}
use Rattle.explore_space.proofs.WorldLemmas.{unmarked_past}

same_or_above : (k n : ℕ) → n ≤ k → (k ≡ n) ⊎ (n < k)
same_or_above k n h = grind arith

-- ---- a choice of each
abbrev perhaps : Bool → ℕ → List Choice → List Choice
perhaps b n rest = cond b (record { hart = n; refuse = false } ∷ rest) rest

other_step : (b : Bool) (n k : ℕ) (rest : List Choice) → n ≢ k → is_chosen (perhaps b n rest) k ≡ is_chosen rest k
other_step true n k rest off = rw (ne_eqb n k off) refl
other_step false n k rest off = refl

here_step : (b : Bool) (n : ℕ) (rest : List Choice) → is_chosen rest n ≡ false → is_chosen (perhaps b n rest) n ≡ b
here_step true n rest e = rw (eq-eqb n n refl) refl
here_step false n rest e = e

pub chosen_past : (n : ℕ) (f : ℕ → Bool) (k : ℕ) → n ≤ k → is_chosen (one_each n f) k ≡ false
unfolding one_each
chosen_past zero f k h = refl
chosen_past (suc n) f k h =
    other_step (f n) n k (one_each n f) (λ e. omega (arith, h, e)) ∙ chosen_past n f k (omega (arith, h))

pub chosen_below : (n : ℕ) (f : ℕ → Bool) (k : ℕ) → k < n → is_chosen (one_each n f) k ≡ f k
unfolding one_each
chosen_below zero f k h = absurd (omega (arith, h))
chosen_below (suc n) f k h = elim (below_or k n (omega (arith, h))) [
  | inl low ↦ other_step (f n) n k (one_each n f) (λ e. omega (arith, low, e)) ∙ chosen_below n f k low
  | inr here ↦ subst (λ i. is_chosen (one_each (suc n) f) i ≡ f i) (sym here)
      (here_step (f n) n (one_each n f) (chosen_past n f n (omega arith)))
]

-- the harts that a key's words mark are those that a choice of each chooses
pub marks_are : (n : ℕ) (key : List ℕ) (k : ℕ) → chosen_by_key n key k ≡ is_chosen (one_each n (chosen_by_key n key)) k
marks_are n key k = elim (cases_lt k n) [
  | inl low ↦ sym (chosen_below n (chosen_by_key n key) k low)
  | inr past ↦ unmarked_past n key k past ∙ sym (chosen_past n (chosen_by_key n key) k past)
]

-- ---- one mark more
pub mark_more : (f : ℕ → Bool) (i j : ℕ) → f i ≡ true → cond (eqb j i) true (ltb j i && f j) ≡ (ltb j (i + 1) && f j)
mark_more f i j is = elim (cases_lt j i) [
  | inl low ↦ rw (ne_eqb j i (λ e. omega (arith, low, e))) (rw (lt-ltb j i low) (rw (lt-ltb j (i + 1) (omega (arith, low))) refl))
  | inr past ↦ elim (same_or_above j i past) [
    | inl here ↦ rw here (rw (eq-eqb i i refl) (rw (lt-ltb i (i + 1) (omega arith)) (sym is)))
    | inr above ↦ rw (ne_eqb j i (λ e. omega (arith, above, e))) (rw (le-ltb j i past) (rw (le-ltb j (i + 1) (omega (arith, above))) refl))
  ]
]

pub mark_none : (f : ℕ → Bool) (i j : ℕ) → f i ≡ false → (ltb j i && f j) ≡ (ltb j (i + 1) && f j)
mark_none f i j is = elim (cases_lt j i) [
  | inl low ↦ rw (lt-ltb j i low) (rw (lt-ltb j (i + 1) (omega (arith, low))) refl)
  | inr past ↦ elim (same_or_above j i past) [
    | inl here ↦ rw here (rw (le-ltb i i (omega arith)) (rw (lt-ltb i (i + 1) (omega arith)) (sym is)))
    | inr above ↦ rw (le-ltb j i past) (rw (le-ltb j (i + 1) (omega (arith, above))) refl)
  ]
]

-- ---- the harts of one choice more
pub chosen_more : (f : ℕ → Bool) (choices : List Choice) (c : Choice) (k : ℕ) → f k ≡ is_chosen choices k
    → cond (eqb k c.hart) true (f k) ≡ is_chosen (choices ++ c ∷ []) k
chosen_more f choices c k is = elim (cases_eq k c.hart) [
  | inl same ↦
      ap (λ b. cond b true (f k)) (eq-eqb k c.hart same)
      ∙ sym (any-append choices (c ∷ []) k ∙ ap (λ b. is_chosen choices k || (b || false)) (eq-eqb c.hart k (sym same)) ∙ or_true (is_chosen choices k))
  | inr other ↦
      ap (λ b. cond b true (f k)) (ne_eqb k c.hart other) ∙ is
      ∙ sym (any-append choices (c ∷ []) k ∙ ap (λ b. is_chosen choices k || (b || false)) (ne_eqb c.hart k (λ e. other (sym e))) ∙ or-none (is_chosen choices k))
]
  where
    or_true : (x : Bool) → x || true ≡ true
    or_true true = refl
    or_true false = refl
