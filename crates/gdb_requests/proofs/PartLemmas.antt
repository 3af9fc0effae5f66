-- Parts between bytes of a value.
use Rattle.std.proofs.Common.{◌≡◌, ℕ, ◌+◌, ◌-◌, ◌<◌, ◌≤◌, ◌==◌, not, Bool, true, false, List, [], ◌∷◌, drop, length, get_or, refl, ap, sym, ◌∙◌, arith, length-drop}
use Rattle.std.proofs.lemmas.List.{drop-drop, take_all}
use Rattle.std.proofs.lemmas.List.Sums.{prefix_len_passes}
use Rattle.std.proofs.lemmas.List.Splits.{slice_split_first, slice_split_none}
use Rattle.std.specs.List.{slice_split, position_or_len}
use Rattle.text_items.specs.Numbers.{before_byte, from_byte}

is_false : (b : Bool) → not b ≡ true → b ≡ false
is_false true h = sym h
is_false false h = refl

module _ (b : ℕ) (xs : List ℕ) where
  -- the byte is there, and the parts go on behind it
  pub more_parts : (length (from_byte b xs) == 0) ≡ false
      → slice_split (λ x. x == b) xs ≡ before_byte b xs ∷ slice_split (λ x. x == b) (drop 1 (from_byte b xs))
  more_parts some =
      let p = position_or_len (λ x. x == b) xs in
      let len : length (from_byte b xs) ≡ length xs - p = length-drop p xs in
      let inside : p < length xs = grind (arith, some, len) in
      let same : drop (p + 1) xs ≡ drop 1 (drop p xs) = sym (drop-drop 1 p xs) in
      slice_split_first (λ x. x == b) xs 0 inside
      ∙ ap (λ l. before_byte b xs ∷ slice_split (λ x. x == b) l) same

  -- the byte is not there, and the whole is the last part
  pub last_part : (length (from_byte b xs) == 0) ≡ true
      → slice_split (λ x. x == b) xs ≡ before_byte b xs ∷ []
  last_part none =
      let p = position_or_len (λ x. x == b) xs in
      let len : length (from_byte b xs) ≡ length xs - p = length-drop p xs in
      let beyond : length xs ≤ p = grind (arith, none, len) in
      let plain : (k d : ℕ) → k < length xs → (get_or xs k d == b) ≡ false
      = λ k d lt. is_false (get_or xs k d == b) (prefix_len_passes (λ x. not (x == b)) xs k d (omega (arith, beyond, lt))) in
      slice_split_none (λ x. x == b) xs plain ∙ ap (λ part. part ∷ []) (sym (take_all p xs beyond))
