-- Each schedule is at one place.
use Rattle.std.proofs.Common.{◌≡◌, ℕ, zero, suc, ◌+◌, ◌-◌, ◌<◌, ◌≤◌, ◌==◌, ◌&&◌, ◌||◌, nat_lt, not, Bool, true, false, List, [], ◌∷◌, ◌++◌, Option, Some, None, map, length, cond, if◌then◌else◌, refl, arith, ap, sym, ◌∙◌, inl, inr, subst, eq-eqb}
use Rattle.std.proofs.lemmas.Bool.{true≢false}
use Rattle.std.specs.Prelude.{slice_index_or}
use Rattle.std.specs.List.{filter, flat_map, range_with_len}
use Rattle.machine.specs.Running.{runs}
use Rattle.machine.specs.World.{World, step}
use Rattle.machine.specs.declared.choice.Choice.{Choice}
use Rattle.sched_draw.specs.Turns.{plain_choice}
use Rattle.campaign_bounded.specs.Bounded.{can_go_on, is_last, itself, may_take_over, others, nexts, from_hart, from_each, bounded, preemption}
use Rattle.campaign_bounded.proofs.AmongLemmas.{Among, among_append, filter_among, flat_map_among, map_among}
use Rattle.campaign_bounded.proofs.BoundedLemmas.{bounded_zero, bounded_more, tails}

-- no element is another one's
abbrev pub Distinct : {X : Type 0} → List X → Type 0
Distinct [] = Unit {0}
Distinct (x ∷ xs) = (Among xs x → ⊥) × Distinct xs

module _ {X : Type 0} where
  distinct_append : (xs ys : List X) → Distinct xs → Distinct ys → ((x : X) → Among xs x → Among ys x → ⊥) → Distinct (xs ++ ys)
  distinct_append [] ys a b apart = b
  distinct_append (x ∷ xs) ys a b apart =
      let first : Among (xs ++ ys) x → ⊥ =
      λ h. elim (among_append xs ys x h) [ inl in_xs ↦ a.0 in_xs | inr in_ys ↦ apart x (inl refl) in_ys ] in
      (first, distinct_append xs ys a.1 b (λ y in_xs in_ys. apart y (inr in_xs) in_ys))

  distinct_filter : (p : X → Bool) (xs : List X) → Distinct xs → Distinct (filter p xs)
  distinct_filter p [] a = tt
  distinct_filter p (x ∷ xs) a = by (p x) (distinct_filter p xs a.1)
    where
      by : (b : Bool) → Distinct (filter p xs) → Distinct (cond b (x ∷ filter p xs) (filter p xs))
      by true later = ((λ h. a.0 (filter_among p xs x h).0), later)
      by false later = later

  among_of : (xs : List X) (d : X) (j : ℕ) → j < length xs → Among xs (slice_index_or xs j d)
  among_of [] d j inside = absurd (omega (arith, inside))
  among_of (x ∷ xs) d zero inside = inl refl
  among_of (x ∷ xs) d (suc j) inside = inr (among_of xs d j (omega (arith, inside)))

  pub apart : (xs : List X) (d : X) (i j : ℕ) → Distinct xs → i < j → j < length xs → slice_index_or xs i d ≡ slice_index_or xs j d → ⊥
  apart [] d i j a less inside same = absurd (omega (arith, inside))
  apart (x ∷ xs) d i zero a less inside same = absurd (omega (arith, less))
  apart (x ∷ xs) d zero (suc j) a less inside same =
      a.0 (subst (Among xs) (sym same) (among_of xs d j (omega (arith, inside))))
  apart (x ∷ xs) d (suc i) (suc j) a less inside same =
      apart xs d i j a.1 (omega (arith, less)) (omega (arith, inside)) same

-- the numbers of a range
range_from : (a n g : ℕ) → Among (range_with_len a n) g → a ≤ g
range_from a zero g h = absurd h
range_from a (suc n) g (inl e) = omega (arith, e)
range_from a (suc n) g (inr h) = let past = range_from (a + 1) n g h in omega (arith, past)

distinct_range : (a n : ℕ) → Distinct (range_with_len a n)
distinct_range a zero = tt
distinct_range a (suc n) = ((λ h. let past = range_from (a + 1) n a h in omega (arith, past)), distinct_range (a + 1) n)

-- the hart that took the last step isn't another one
not_other : (r o : Bool) (k : ℕ) (l : Bool) → l ≡ true → (r && (not l && (nat_lt 0 k || not o))) ≡ true → ⊥
not_other false o k l last h = true≢false (sym h)
not_other true o k false last h = true≢false (sym last)
not_other true o k true last h = true≢false (sym h)

itself_last : (w : World) (last : Option ℕ) (g : ℕ) → Among (itself w last) g → is_last last g ≡ true
itself_last w None g h = absurd h
itself_last w (Some last) g h = by (runs w.harts last) h
  where
    by : (b : Bool) → Among (if b then last ∷ [] else []) g → (last == g) ≡ true
    by true (inl e) = eq-eqb last g e
    by true (inr more) = absurd more
    by false none = absurd none

distinct_itself : (w : World) (last : Option ℕ) → Distinct (itself w last)
distinct_itself w None = tt
distinct_itself w (Some last) = by (runs w.harts last)
  where
    by : (b : Bool) → Distinct (if b then last ∷ [] else [])
    by true = ((λ h. h), tt)
    by false = tt

distinct_nexts : (harts k : ℕ) (w : World) (last : Option ℕ) → Distinct (nexts harts k w last)
distinct_nexts harts k w last =
    distinct_append (others harts k w last) (itself w last)
    (distinct_filter (may_take_over k w last) (range_with_len 0 harts) (distinct_range 0 harts)) (distinct_itself w last)
    (λ g other own. not_other (runs w.harts g) (can_go_on w last) k (is_last last g) (itself_last w last g own)
    (filter_among (may_take_over k w last) (range_with_len 0 harts) g other).1)

-- ---- lists behind choices
first_of_list : List Choice → ℕ
first_of_list [] = 0
first_of_list (c ∷ rest) = c.hart

rest_of_list : List Choice → List Choice
rest_of_list [] = []
rest_of_list (c ∷ rest) = rest

distinct_from : (g : ℕ) (lists : List (List Choice)) → Distinct lists → Distinct (from_hart g lists)
unfolding rest_of_list
distinct_from g [] a = tt
distinct_from g (list ∷ lists) a = (
  (λ h. let at = map_among (λ x. plain_choice g ∷ x) lists (plain_choice g ∷ list) h in
      a.0 (subst (Among lists) (ap rest_of_list at.1) at.2)),
  distinct_from g lists a.1,
)

from_first : (g : ℕ) (lists : List (List Choice)) (list : List Choice) → Among (from_hart g lists) list → first_of_list list ≡ g
unfolding first_of_list
from_first g lists list h =
    let at = map_among (λ x. plain_choice g ∷ x) lists list h in sym (ap first_of_list at.1)

distinct_each : (lists : ℕ → List (List Choice)) (hs : List ℕ) → Distinct hs → ((g : ℕ) → Distinct (lists g))
    → Distinct (flat_map (λ h. from_hart h (lists h)) hs)
distinct_each lists [] a each = tt
distinct_each lists (g ∷ hs) a each =
    distinct_append (from_hart g (lists g)) (flat_map (λ h. from_hart h (lists h)) hs)
    (distinct_from g (lists g) (each g)) (distinct_each lists hs a.1 each)
    (λ list here later.
    let at = flat_map_among (λ h. from_hart h (lists h)) hs list later in
    a.0 (subst (Among hs) (sym (from_first at.0 (lists at.0) list at.2) ∙ from_first g (lists g) list here) at.1))

distinct_from_each : (lists : ℕ → List (List Choice)) (hs : List ℕ) → Distinct hs → ((g : ℕ) → Distinct (lists g))
    → Distinct (from_each lists hs)
distinct_from_each lists [] a each = ((λ h. h), tt)
distinct_from_each lists (g ∷ hs) a each = distinct_each lists (g ∷ hs) a each

pub distinct_bounded : (harts m k : ℕ) (w : World) (last : Option ℕ) → Distinct (bounded harts m k w last)
distinct_bounded harts zero k w last =
    subst (λ (lists : List (List Choice)). Distinct lists) (sym (bounded_zero harts k w last)) ((λ h. h), tt)
distinct_bounded harts (suc m) k w last =
    subst (λ (lists : List (List Choice)). Distinct lists) (sym (bounded_more harts m k w last))
    (distinct_from_each (tails harts m k w last) (nexts harts k w last) (distinct_nexts harts k w last)
    (λ g. distinct_bounded harts m (k - preemption w last g) (step w (plain_choice g)) (Some g)))
