-- Hexadecimal numbers.
use Rattle.std.specs.Prelude.{ℕ, ◌+◌, ◌*◌, ◌^◌, ◌==◌, nat_lt, length, List, [], ◌∷◌, Option, Some, None, if◌then◌else◌}
use Rattle.gdb_frames.specs.Digits.{hex_value}

-- what follows a number and a digit, if it is one
abbrev pub with_hex_digit : ℕ → (ℕ → Option ℕ) → Option ℕ → Option ℕ
with_hex_digit n rest None = None
with_hex_digit n rest (Some digit) = rest (16 * n + digit)

-- the number of the digits that follow those of n
unfoldable pub hex_digits_after : ℕ → List ℕ → Option ℕ
hex_digits_after n [] = Some n
hex_digits_after n (b ∷ digits) = with_hex_digit n (λ m. hex_digits_after m digits) (hex_value b)

-- a number, if it is below 2^32
abbrev pub in_32_bits : Option ℕ → Option ℕ
in_32_bits None = None
in_32_bits (Some n) = if nat_lt n (2 ^ 32) then Some n else None

-- the number of one or more hexadecimal digits, below 2^32
abbrev pub hex_number : List ℕ → Option ℕ
hex_number digits = if length digits == 0 then None else in_32_bits (hex_digits_after 0 digits)
