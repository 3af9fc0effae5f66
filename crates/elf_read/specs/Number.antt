-- The numbers in a file, little-endian.
use Rattle.std.specs.Prelude.{ℕ, List, drop}
use Rattle.byteorder.specs.Endian.{little_number}

-- the number in the four bytes at an offset
unfoldable pub word_at : List ℕ → ℕ → ℕ
word_at bytes place = little_number 4 (drop place bytes)

-- the number in the two bytes at an offset
unfoldable pub half_at : List ℕ → ℕ → ℕ
half_at bytes place = little_number 2 (drop place bytes)
