-- two segments share an address exactly if, sorted by base, they do not stand in a row
use Rattle.std.proofs.Common.{◌≡◌, ℕ, suc, ◌+◌, ◌<◌, ◌≤◌, true, false, not, cond, List, [], ◌∷◌, length, arith, ◌∙◌, sym, ap, refl, inl, inr, filter, IsPermutation}
use Rattle.std.proofs.lemmas.Bool.{cases_lt, cases_Bool}
use Rattle.std.proofs.lemmas.Bool.Decides.{same_from_decides, nat_tests}
use Rattle.std.proofs.lemmas.List.Sorted.{sum_by-IsPermutation, All-permutation}
use Rattle.std.proofs.lemmas.List.Elements.{All-head, All-tail, All-cons, All-nil}
use Rattle.std.proofs.lemmas.List.Sums.{length-filter}
use Rattle.std.specs.Bool.{Decides}
use Rattle.std.specs.List.{list_any, All}
use Rattle.std.specs.List.Sorted.{IsNonDecreasingBy}
use Rattle.image.specs.declared.span.Span.{Span}
use Rattle.image.specs.Spans.{has_address, Shares, is_filled, overlaps, any_overlap, stands_in_row}

-- of segments in a row no two share an address, and none has a lower one
row_counts : (x end : ℕ) (ss : List Span) → stands_in_row end ss ≡ true → (x < end → length (filter (has_address x) ss) ≡ 0) × (length (filter (has_address x) ss) ≤ 1)
row_counts x end [] e = (λ _. refl, omega arith)
row_counts x end (s ∷ ss) e =
    let rest = row_counts x (s.base + s.size) ss (grind (arith, nat_tests)) in
    let starts : end ≤ s.base = grind (arith, nat_tests) in
    elim (cases_Bool (has_address x s)) [
      | inl here ↦ (
          let below : x < s.base + s.size = grind (arith, nat_tests) in
          let above : s.base ≤ x = grind (arith, nat_tests) in
          let none : length (filter (has_address x) ss) ≡ 0 = rest.0 below in
          (λ low. absurd (omega arith), rw here (omega arith)))
      | inr off ↦ (λ low. rw off (let none : length (filter (has_address x) ss) ≡ 0 = rest.0 (omega arith) in omega arith), rw off (omega (arith, rest.1)))
    ]

-- one more segment
more : (x : ℕ) (s : Span) (ss : List Span) → length (filter (has_address x) ss) ≤ length (filter (has_address x) (s ∷ ss))
more x s ss = elim (cases_Bool (has_address x s)) [
  | inl here ↦ rw here (omega arith)
  | inr off ↦ rw off (omega arith)
]

pub apart_from_row : (ss : List Span) → stands_in_row 0 ss ≡ true → Shares ss → ⊥
apart_from_row ss e shares = omega (arith, (row_counts shares.0 0 ss e).1)

lower : (s : Span) (ss : List Span) → IsNonDecreasingBy (λ (t : Span). t.base) (s ∷ ss) → IsNonDecreasingBy (λ (t : Span). t.base) ss
lower s ss up = λ i j d le lt. up (suc i) (suc j) d (omega arith) (omega arith)

-- of sorted segments that do not stand in a row, two share an address
shared_from : (s : Span) (ss : List Span) → IsNonDecreasingBy (λ (t : Span). t.base) (s ∷ ss) → All (λ (t : Span). 0 < t.size) (s ∷ ss) → stands_in_row (s.base + s.size) ss ≡ false → Shares (s ∷ ss)
shared_from s [] up full e = cc
shared_from s (t ∷ ts) up full e = elim (cases_lt t.base (s.base + s.size)) [
  | inl close ↦ (
      let order : s.base ≤ t.base = up 0 1 s (omega arith) (omega arith) in
      let some : 0 < t.size = All-head (λ (u : Span). 0 < u.size) t ts (All-tail (λ (u : Span). 0 < u.size) s (t ∷ ts) full) in
      let one : has_address t.base s ≡ true = grind (arith, nat_tests) in
      let two : has_address t.base t ≡ true = grind (arith, nat_tests) in
      (t.base, rw (one, two) (omega arith)))
  | inr apart ↦ (
      let r = shared_from t ts (lower s (t ∷ ts) up) (All-tail (λ (u : Span). 0 < u.size) s (t ∷ ts) full) (grind (arith, nat_tests)) in
      (r.0, omega (arith, r.1, more r.0 s (t ∷ ts))))
]

-- what the test of all pairs finds
met : (s : Span) (ss : List Span) → list_any (overlaps s) ss ≡ true → (x : ℕ) × (has_address x s ≡ true) × (1 ≤ length (filter (has_address x) ss))
met s [] e = cc
met s (t ∷ ts) e = elim (cases_Bool (overlaps s t)) [
  | inl hit ↦ (elim (cases_lt s.base t.base) [
    | inl low ↦ (
        let one : has_address t.base s ≡ true = grind (arith, nat_tests) in
        let two : has_address t.base t ≡ true = grind (arith, nat_tests) in
        (t.base, one, rw two (omega arith)))
    | inr high ↦ (
        let one : has_address s.base s ≡ true = grind (arith, nat_tests) in
        let two : has_address s.base t ≡ true = grind (arith, nat_tests) in
        (s.base, one, rw two (omega arith)))
  ])
  | inr miss ↦ (
      let r = met s ts (grind (arith, nat_tests)) in
      (r.0, r.1, omega (arith, r.2, more r.0 t ts)))
]

shares_from : (ss : List Span) → any_overlap ss ≡ true → Shares ss
shares_from [] e = cc
shares_from (s ∷ ss) e = elim (cases_Bool (list_any (overlaps s) ss)) [
  | inl hit ↦ (let r = met s ss hit in (r.0, rw r.1 (omega (arith, r.2))))
  | inr miss ↦ (let r = shares_from ss (grind (arith, nat_tests)) in (r.0, omega (arith, r.1, more r.0 s ss)))
]

meets_from : (x : ℕ) (s : Span) (ss : List Span) → has_address x s ≡ true → 1 ≤ length (filter (has_address x) ss) → list_any (overlaps s) ss ≡ true
meets_from x s [] h some = absurd (omega arith)
meets_from x s (t ∷ ts) h some = elim (cases_Bool (has_address x t)) [
  | inl here ↦ (let hit : overlaps s t ≡ true = grind (arith, nat_tests) in rw hit refl)
  | inr off ↦ (let rest : list_any (overlaps s) ts ≡ true = meets_from x s ts h (rw off at some) in grind (arith, nat_tests))
]

shared_by : (x : ℕ) (ss : List Span) → 2 ≤ length (filter (has_address x) ss) → any_overlap ss ≡ true
shared_by x [] some = absurd (omega arith)
shared_by x (s ∷ ss) some = elim (cases_Bool (has_address x s)) [
  | inl here ↦ (let more : 2 ≤ suc (length (filter (has_address x) ss)) = rw here at some in rw (meets_from x s ss here (omega arith)) refl)
  | inr off ↦ (let rest : any_overlap ss ≡ true = shared_by x ss (rw off at some) in grind (arith, nat_tests))
]

pub shared_decides : (ss : List Span) → Decides (any_overlap ss) (Shares ss)
shared_decides ss = (shares_from ss, λ h. shared_by h.0 ss h.1)

-- empty segments have no address
pub filled_counts : (x : ℕ) (ss : List Span) → length (filter (has_address x) (filter is_filled ss)) ≡ length (filter (has_address x) ss)
filled_counts x [] = refl
filled_counts x (s ∷ ss) = elim (cases_Bool (is_filled s)) [
  | inl full ↦ rw full (elim (cases_Bool (has_address x s)) [
    | inl here ↦ rw here (ap suc (filled_counts x ss))
    | inr off ↦ rw off (filled_counts x ss)
  ])
  | inr empty ↦ (let off : has_address x s ≡ false = grind (arith, nat_tests) in rw (empty, off) (filled_counts x ss))
]

all_filled : (ss : List Span) → All (λ (t : Span). 0 < t.size) (filter is_filled ss)
all_filled [] = All-nil (λ (t : Span). 0 < t.size)
all_filled (s ∷ ss) = elim (cases_Bool (is_filled s)) [
  | inl full ↦ rw full (All-cons (λ (t : Span). 0 < t.size) s (filter is_filled ss) (grind (arith, nat_tests)) (all_filled ss))
  | inr empty ↦ rw empty (all_filled ss)
]

same_counts : (x : ℕ) (ss row : List Span) → IsPermutation (filter is_filled ss) row → length (filter (has_address x) row) ≡ length (filter (has_address x) ss)
same_counts x ss row moved = length-filter (has_address x) row ∙ sum_by-IsPermutation (λ (s : Span). cond (has_address x s) 1 0) (filter is_filled ss) row moved ∙ sym (length-filter (has_address x) (filter is_filled ss)) ∙ filled_counts x ss

sorted_shares : (row : List Span) → IsNonDecreasingBy (λ (t : Span). t.base) row → All (λ (t : Span). 0 < t.size) row → stands_in_row 0 row ≡ false → Shares row
sorted_shares [] up full e = cc
sorted_shares (s ∷ ss) up full e = shared_from s ss up full (grind (arith, nat_tests))

-- sorted segments that are not empty stand in a row exactly if no two share an address
pub row_decides : (ss row : List Span) → IsPermutation (filter is_filled ss) row → IsNonDecreasingBy (λ (t : Span). t.base) row → not (stands_in_row 0 row) ≡ any_overlap ss
row_decides ss row moved up = same_from_decides {P = Shares ss} (not (stands_in_row 0 row)) (any_overlap ss) (
  (λ e. let r : Shares row = sorted_shares row up (All-permutation (λ (t : Span). 0 < t.size) (filter is_filled ss) row moved (all_filled ss)) (grind (arith, nat_tests)) in
      (r.0, rw (← same_counts r.0 ss row moved) r.1)),
  (λ h. elim (cases_Bool (stands_in_row 0 row)) [
    | inl e ↦ absurd (apart_from_row row e (h.0, rw (same_counts h.0 ss row moved) h.1))
    | inr e ↦ rw e refl
  ]),
)
    (shared_decides ss)
