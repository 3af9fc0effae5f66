-- Lines as texts and as their bytes.
use Rattle.std.proofs.Common.{◌≡◌, ℕ, ◌+◌, ◌<◌, List, [], ◌∷◌, ◌++◌, get_or, length, map, string_bytes, refl, ap, ◌∙◌, arith}
use Rattle.std.proofs.lemmas.List.{length-map}
use Rattle.std.proofs.lemmas.Option.{slice_get-get_or, slice_get-map, get_or_from_slice_get}
use Rattle.std.specs.Cmp.Lexicographic.{slice_cmp}
use Rattle.std.specs.List.{flat_map}
use Rattle.std.specs.List.Sorted.{IsSorted}
use Rattle.std.specs.Option.{option_map}
use Rattle.std.specs.Ordering.{nat_cmp, is_lt}
use Rattle.std.specs.Prelude.{String}
use Rattle.std.specs.String.{string_cmp}

pub joined_bytes : {Z : Type 0} (lines : List (String Z)) → flat_map string_bytes lines ≡ flat_map (λ line. line) (map string_bytes lines)
joined_bytes [] = refl
joined_bytes (l ∷ ls) = ap (λ text. string_bytes l ++ text) (joined_bytes ls)

bytes_at : {Z : Type 0} (lines : List (String Z)) (l : String Z) (i : ℕ) (d : List ℕ) → i < length lines
    → get_or (map string_bytes lines) i d ≡ string_bytes (get_or lines i l)
bytes_at lines l i d low =
    get_or_from_slice_get (map string_bytes lines) i (string_bytes (get_or lines i l)) d
    (slice_get-map string_bytes lines i ∙ ap (option_map string_bytes) (slice_get-get_or lines i l low))

pub sorted_bytes : {Z : Type 0} (lines : List (String Z)) → IsSorted string_cmp lines → IsSorted (slice_cmp nat_cmp) (map string_bytes lines)
sorted_bytes [] sorted k d low high = absurd (omega (arith, high))
sorted_bytes (l ∷ ls) sorted k d low high =
    let n = length-map (l ∷ ls) string_bytes in
    ap (λ x. is_lt (slice_cmp nat_cmp x (get_or (map string_bytes (l ∷ ls)) k d))) (bytes_at (l ∷ ls) l (k + 1) d (omega (arith, high, n)))
    ∙ ap (λ x. is_lt (slice_cmp nat_cmp (string_bytes (get_or (l ∷ ls) (k + 1) l)) x)) (bytes_at (l ∷ ls) l k d (omega (arith, high, n)))
    ∙ sorted k l low (omega (arith, high, n))
