-- Decimal numbers without a leading zero, the mark after them, and the bytes between them.
use Rattle.std.specs.Prelude.{◌≡◌, ℕ, ◌+◌, ◌-◌, ◌*◌, ◌^◌, ◌==◌, ◌||◌, ◌&&◌, not, min, nat_lt, Bool, true, false, List, [], ◌∷◌, length, slice_index, take, drop, Option, Some, None, if◌then◌else◌}
use Rattle.std.specs.List.{position_or_len}
use Rattle.std.specs.Str.{all_ascii_digits}
use Rattle.std.specs.Str.Parse.{IsNumeral}

-- one or more decimal digits, the first of which is not 0 unless it is the only one
pub record IsNumber (digits : List ℕ) : Type 0 where
  pub numeral : IsNumeral 10 digits
  pub no_leading_zero : slice_index digits 0 ≡ 48 → length digits ≡ 1

-- the mark of a refused store-conditional is `!`
abbrev pub mark_of : Bool → List ℕ
mark_of true = 33 ∷ []
mark_of false = []

-- the number of decimal digits that follow those of n
abbrev pub value_after : ℕ → List ℕ → ℕ
value_after n [] = n
value_after n (b ∷ bs) = value_after (10 * n + (b - 48)) bs

-- one or more decimal digits without a leading zero
abbrev pub is_number : List ℕ → Bool
is_number digits = all_ascii_digits digits
    && (nat_lt 0 (length digits) && (not (slice_index digits 0 == 48) || length digits == 1))

-- the number, if it is one; from 2 ^ 32 on all are the same
abbrev pub number_of : List ℕ → Option ℕ
number_of digits = if is_number digits then Some (min (2 ^ 32) (value_after 0 digits)) else None

-- an item ends in `!`
abbrev pub has_mark : List ℕ → Bool
has_mark item = slice_index item (length item - 1) == 33

-- an item without its last byte
abbrev pub before_mark : List ℕ → List ℕ
before_mark item = take (length item - 1) item

-- an item without the mark, if there is one
abbrev pub unmarked : List ℕ → List ℕ
unmarked item = if has_mark item then before_mark item else item

-- the bytes before the first byte of a value, and those from it on
abbrev pub before_byte : ℕ → List ℕ → List ℕ
before_byte byte item = take (position_or_len (λ b. b == byte) item) item

abbrev pub from_byte : ℕ → List ℕ → List ℕ
from_byte byte item = drop (position_or_len (λ b. b == byte) item) item
