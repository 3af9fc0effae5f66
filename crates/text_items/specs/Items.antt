-- The items of a text: the longest runs without blanks.
use Rattle.std.specs.Prelude.{◌≡◌, ℕ, ◌+◌, ◌-◌, ◌<◌, ◌≤◌, ◌==◌, ◌||◌, Bool, List, [], ◌∷◌, length, take, drop}
use Rattle.std.specs.List.{slice_split}

-- space, tab, LF and CR
abbrev pub is_blank : ℕ → Bool
is_blank b = b == 32 || (b == 9 || (b == 10 || b == 13))

-- a longest run of bytes that aren't blanks, and its offset
pub record Item : Type 0 where
  pub at : ℕ
  pub text : List ℕ

-- the parts between blanks that aren't empty, where the first part begins at an offset
abbrev pub items_of_parts : ℕ → List (List ℕ) → List Item
items_of_parts at [] = []
items_of_parts at ([] ∷ parts) = items_of_parts (at + 1) parts
items_of_parts at ((b ∷ bs) ∷ parts) =
    record { at = at; text = b ∷ bs } ∷ items_of_parts (at + (length (b ∷ bs) + 1)) parts

-- the items from an offset on
abbrev pub items_from : ℕ → List ℕ → List Item
items_from at text = items_of_parts at (slice_split is_blank (drop at text))

-- the bytes from one offset to another
abbrev pub text_between : ℕ → ℕ → List ℕ → List ℕ
text_between begin end text = take (end - begin) (drop begin text)

-- the first item from an offset on is between two offsets
pub record IsFirstItem (from : ℕ) (text : List ℕ) (begin end : ℕ) : Type 0 where
  pub after_from : from ≤ begin
  pub nonempty : begin < end
  pub within : end ≤ length text
  pub first : items_from from text
      ≡ record { at = begin; text = text_between begin end text } ∷ items_from end text
