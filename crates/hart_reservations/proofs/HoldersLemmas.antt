-- The harts that may have a reservation are right after each change.
use Rattle.std.proofs.Common.{◌≡◌, ◌≢◌, ℕ, ◌<◌, Bool, true, false, not, eqb, cond, List, [], ◌∷◌, zero, suc, Option, Some, None, length, get_or, set, arith, refl, ap, sym, ◌∙◌, ◌⊎◌, inl, inr, get_or-set_other}
use Rattle.std.proofs.lemmas.Bool.Decides.{nat_tests}
use Rattle.hart_reservations.specs.Marks.{mark_at}
use Rattle.hart_reservations.specs.Holders.{Covers, may_hold, holders_with, left_by}
use Rattle.hart_reservations.specs.declared.holders.Holders.{Holders}
use Rattle.hart_reservations.specs.declared.holders.Holders.TheVariants.{Nobody, Only, Several}

same_or_not : (k h : ℕ) → (k ≡ h) ⊎ (k ≢ h)
same_or_not k h = grind arith

-- a hart that may have none with one more hart is another, and may have had none before
with_more : (holders : Holders) (h k : ℕ) → may_hold (holders_with holders h) k ≡ false → (may_hold holders k ≡ false) × (k ≢ h)
with_more Nobody h k none = (refl, grind (arith, nat_tests))
with_more (Only x) h k none = grind (arith, nat_tests)
with_more Several h k none = grind (arith, nat_tests)

pub covers-set : (words : List (Option ℕ)) (holders : Holders) (h word : ℕ) → Covers holders (mark_at words)
    → Covers (holders_with holders h) (mark_at (set words h (Some word)))
covers-set words holders h word covered k none =
    let w = with_more holders h k none in
    let other : k ≢ h = w.1 in
    rw get_or-set_other (covered k w.0)

-- after hart h has left, a hart that may have none is h or may have had none before
left_cases : (holders : Holders) (h k : ℕ) → may_hold (left_by holders h) k ≡ false → (k ≡ h) ⊎ (may_hold holders k ≡ false)
left_cases Nobody h k none = inr refl
left_cases (Only x) h k none = grind (arith, nat_tests)
left_cases Several h k none = inr none

emptied : (words : List (Option ℕ)) (h : ℕ) → get_or (set words h None) h None ≡ None
emptied [] h = refl
emptied (x ∷ words) zero = refl
emptied (x ∷ words) (suc h) = emptied words h

pub covers-clear : (words : List (Option ℕ)) (holders : Holders) (h : ℕ) → Covers holders (mark_at words)
    → Covers (left_by holders h) (mark_at (set words h None))
covers-clear words holders h covered k none = elim (same_or_not k h) [
  | inl same ↦ rw same (emptied words h)
  | inr other ↦ rw get_or-set_other (elim (left_cases holders h k none) [ inl same ↦ absurd (other same) | inr before ↦ covered k before ])
]
