-- Words and bytes as hexadecimal digits.
use Rattle.std.specs.Prelude.{ℕ, zero, suc, ◌/◌, ◌%◌, List, [], ◌∷◌, false}
use Rattle.std.specs.Fmt.{digit_glyph}

-- the last k hexadecimal digits of n, with leading zeros, and then a text
abbrev pub hex_onto : ℕ → ℕ → List ℕ → List ℕ
hex_onto zero n text = text
hex_onto (suc k) n text = hex_onto k (n / 16) (digit_glyph false (n % 16) ∷ text)

-- a word as eight lower-case hexadecimal digits
unfoldable pub word_text : ℕ → List ℕ
word_text n = hex_onto 8 n []

-- a byte as two lower-case hexadecimal digits
unfoldable pub byte_text : ℕ → List ℕ
byte_text n = hex_onto 2 n []
