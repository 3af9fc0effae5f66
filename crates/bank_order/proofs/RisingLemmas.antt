-- The test is exact: it is true exactly if stamps rise.
use Rattle.std.proofs.Common.{◌≡◌, ℕ, ◌<◌, true, List, [], ◌∷◌, Some, None, refl, arith}
use Rattle.std.specs.Prelude.{nat_lt}
use Rattle.std.specs.List.{AllByRecursion}
use Rattle.std.proofs.lemmas.Bool.{and_parts, and_from, ltb-true, lt-ltb}
use Rattle.bank_laws.specs.Segments.{LoggedSegment}
use Rattle.bank_laws.specs.Order.{Rises, Earlier}
use Rattle.bank_order.specs.Rising.{rises_above}

-- all stamps are above one
abbrev Above : ℕ → List LoggedSegment → Type 0
Above stamp es = AllByRecursion (λ e. stamp < e.stamp) es

above_more : (low high : ℕ) (es : List LoggedSegment) → low < high → Above high es → Above low es
above_more low high [] l a = tt
above_more low high (e ∷ es) l a = (let h = a.0 in omega (arith, l, h), above_more low high es l a.1)

rises_if : (stamp : ℕ) (es : List LoggedSegment) → rises_above (Some stamp) es ≡ true → Above stamp es × Rises Earlier es
rises_if stamp [] e = (tt, tt)
rises_if stamp (x ∷ xs) e =
    let both = and_parts (nat_lt stamp x.stamp) (rises_above (Some x.stamp) xs) e in
    let rest = rises_if x.stamp xs both.1 in
    let first = ltb-true stamp x.stamp both.0 in
    ((first, above_more stamp x.stamp xs first rest.0), (rest.0, rest.1))

if_rises : (stamp : ℕ) (es : List LoggedSegment) → Above stamp es → Rises Earlier es → rises_above (Some stamp) es ≡ true
if_rises stamp [] a r = refl
if_rises stamp (x ∷ xs) a r = and_from (nat_lt stamp x.stamp) (rises_above (Some x.stamp) xs) (lt-ltb stamp x.stamp a.0) (if_rises x.stamp xs r.0 r.1)

pub test_is_rising : (es : List LoggedSegment) → rises_above None es ≡ true → Rises Earlier es
test_is_rising [] e = tt
test_is_rising (x ∷ xs) e = let both = and_parts true (rises_above (Some x.stamp) xs) e in let rest = rises_if x.stamp xs both.1 in (rest.0, rest.1)

pub rising_passes : (es : List LoggedSegment) → Rises Earlier es → rises_above None es ≡ true
rising_passes [] r = refl
rising_passes (x ∷ xs) r = and_from true (rises_above (Some x.stamp) xs) refl (if_rises x.stamp xs r.0 r.1)
