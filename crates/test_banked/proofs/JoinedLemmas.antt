-- Hart by hart, the reservations that are still held.
use Rattle.std.proofs.Common.{◌≡◌, ℕ, ◌+◌, ◌<◌, ◌≤◌, ◌==◌, Bool, true, false, refl, sym, ◌∙◌, ap, subst, arith, ⊎_elim, List, length, [], ◌∷◌, zero, suc}
use Rattle.std.specs.Prelude.{Option, Some, None, if◌then◌else◌}
use Rattle.std.proofs.lemmas.Bool.{cases_lt, eqb-true, eq-eqb}
use Rattle.hart_reservations.specs.Marks.{Marks, mark_at}
use Rattle.test_banked.specs.Joined.{with_mark_if}

-- the harts below one have the marks that they are to have, and the others none
abbrev pub SoFar : Marks → Marks → ℕ → Type 0
SoFar m all i = ((h : ℕ) → h < i → m h ≡ all h) × ((h : ℕ) → i ≤ h → m h ≡ None)

at_other : (m : Marks) (i h : ℕ) (found : Option ℕ) → (h ≡ i → ⊥) → with_mark_if m i found h ≡ m h
at_other m i h None ne = refl
at_other m i h (Some w) ne = at_test (h == i) refl
  where
    at_test : (t : Bool) → (h == i) ≡ t → (if t then Some w else m h) ≡ m h
    at_test true q = absurd (ne (eqb-true h i q))
    at_test false q = refl

at_same : (m : Marks) (i : ℕ) (found : Option ℕ) → m i ≡ None → with_mark_if m i found i ≡ found
at_same m i None free = free
at_same m i (Some w) free = at_test (i == i) refl
  where
    at_test : (t : Bool) → (i == i) ≡ t → (if t then Some w else m i) ≡ Some w
    at_test true q = refl
    at_test false q = cc (q, eq-eqb i i refl)

pub one_more : (m n all : Marks) (i : ℕ) (found : Option ℕ) → SoFar m all i → found ≡ all i → n ≡ with_mark_if m i found → SoFar n all (i + 1)
one_more m n all i found so_far is set = (
  λ h low. ⊎_elim
      (λ (l : h < i). ap (λ (f : Marks). f h) set ∙ at_other m i h found (λ e. omega (arith, l, e)) ∙ so_far.0 h l)
      (λ (g : i ≤ h). let e : i ≡ h = omega (arith, low, g) in subst (λ (k : ℕ). n k ≡ all k) e (ap (λ (f : Marks). f i) set ∙ at_same m i found (so_far.1 i (omega arith)) ∙ is))
      (cases_lt h i),
  λ h high. ap (λ (f : Marks). f h) set ∙ at_other m i h found (λ e. omega (arith, high, e)) ∙ so_far.1 h (omega (arith, high)),
)

past_end : (named : List (Option ℕ)) (h : ℕ) → length named ≤ h → mark_at named h ≡ None
past_end [] h past = refl
past_end (x ∷ xs) zero past = absurd (omega (arith, past))
past_end (x ∷ xs) (suc h) past = past_end xs h (omega (arith, past))

-- at the end they are all as they are to be, where the others are to have none
pub all_done : (m : Marks) (join : ℕ → Option ℕ → Option ℕ) (named : List (Option ℕ)) → ((h : ℕ) → join h None ≡ None) → SoFar m (λ h. join h (mark_at named h)) (length named) → (h : ℕ) → m h ≡ join h (mark_at named h)
all_done m join named none so_far h = ⊎_elim
    (λ (l : h < length named). so_far.0 h l)
    (λ (g : length named ≤ h). so_far.1 h g ∙ sym (none h) ∙ ap (join h) (sym (past_end named h g)))
    (cases_lt h (length named))

pub none_yet : (m all : Marks) → m ≡ (λ h. None) → SoFar m all 0
none_yet m all none = (λ h low. absurd (omega (arith, low)), λ h high. ap (λ (f : Marks). f h) none)
