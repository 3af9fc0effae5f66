-- Rows of words that stand one behind another.
use Rattle.std.specs.Prelude.{◌≡◌, ℕ, zero, suc, ◌-◌, ◌≤◌, List, [], ◌∷◌, take, drop, slice_index}

-- the rows, from one that begins at a word on, by where each ends
unfoldable pub rows_from : ℕ → List ℕ → List ℕ → List (List ℕ)
rows_from at [] words = []
rows_from at (end ∷ ends) words = take (end - at) (drop at words) ∷ rows_from end ends words

-- no row ends before it begins, and the last one ends where the words do
unfoldable pub AreEnds : ℕ → List ℕ → ℕ → Type 0
AreEnds at [] count = at ≡ count
AreEnds at (end ∷ ends) count = (at ≤ end) × AreEnds end ends count

-- where row number k begins: where the one before it ends
unfoldable pub row_begin : ℕ → List ℕ → ℕ → ℕ
row_begin at ends zero = at
row_begin at ends (suc k) = slice_index ends k
