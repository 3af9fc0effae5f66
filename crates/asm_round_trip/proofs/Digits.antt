-- Printed numbers.
use Rattle.std.specs.Prelude.{ℕ, ◌/◌, ◌%◌, ◌^◌, ◌<◌, List, [], ◌∷◌, false}
use Rattle.std.specs.Fmt.{digits, decimal, digit_glyph}
use Rattle.isa_names.specs.Digits.{word_text, byte_text}
use Rattle.asm_round_trip.proofs.Atoms.{IsNumber}

-- the hexadecimal digit of a place
abbrev pub digit_at : ℕ → ℕ → ℕ
digit_at n k = digit_glyph false (n / 16 ^ k % 16)

-- eight digits
unfoldable pub hex8 : ℕ → List ℕ
hex8 n = digit_at n 7 ∷ digit_at n 6 ∷ digit_at n 5 ∷ digit_at n 4 ∷ digit_at n 3 ∷ digit_at n 2 ∷ digit_at n 1 ∷ digit_at n 0 ∷ []

-- two digits
unfoldable pub hex2 : ℕ → List ℕ
hex2 n = digit_at n 1 ∷ digit_at n 0 ∷ []

-- `0x` and digits
abbrev pub hexadecimal : List ℕ → List ℕ
hexadecimal ds = 48 ∷ 120 ∷ ds

-- each form in which a listing prints a number is read as the number
pub record IsReadBack (n : ℕ) : Type 0 where
  pub in_decimal : IsNumber n (decimal n)
  pub in_hexadecimal : IsNumber n (hexadecimal (digits 16 false n))
  pub as_word : IsNumber n (hexadecimal (word_text n))
  pub as_byte : n < 2 ^ 8 → IsNumber n (hexadecimal (byte_text n))
