-- Words are read back from their digits.
use Rattle.std.specs.Prelude.{ℕ, List, [], ◌∷◌, Option, Some, None}
use Rattle.std.specs.Int.{from_le_bytes, w32}
use Rattle.gdb_requests.specs.Bytes.{paired_bytes}
use Rattle.gdb_requests.specs.Lists.{onto_list}

-- the words of bytes, four each, the lowest first
unfoldable pub words_of_bytes : List ℕ → Option (List ℕ)
words_of_bytes [] = Some []
words_of_bytes (a ∷ []) = None
words_of_bytes (a ∷ (b ∷ [])) = None
words_of_bytes (a ∷ (b ∷ (c ∷ []))) = None
words_of_bytes (a ∷ (b ∷ (c ∷ (d ∷ bytes)))) =
    onto_list (Some (from_le_bytes w32 (a ∷ (b ∷ (c ∷ (d ∷ [])))))) (words_of_bytes bytes)

abbrev pub words_by : Option (List ℕ) → Option (List ℕ)
words_by None = None
words_by (Some bytes) = words_of_bytes bytes

-- the words of a text of digits
abbrev pub words_read : List ℕ → Option (List ℕ)
words_read text = words_by (paired_bytes text)
