-- Numbers and references.
use Rattle.std.specs.Prelude.{ℕ, ◌+◌, ◌-◌, ◌*◌, ◌&&◌, ◌==◌, nat_lt, nat_le, if◌then◌else◌, List, [], ◌∷◌, Option, Some, None, fold, length}
use Rattle.std.specs.List.{list_all}

-- the value of a digit of either case, or 16
abbrev pub digit_value : ℕ → ℕ
digit_value b =
    if nat_le 48 b && nat_le b 57 then b - 48
    else (if nat_le 97 b && nat_le b 102 then b - 97 + 10
    else (if nat_le 65 b && nat_le b 70 then b - 65 + 10
    else 16))

-- the value of the digits, after the value of those before them
abbrev pub value_of_digits : ℕ → ℕ → List ℕ → ℕ
value_of_digits base before digits = fold (λ n b. n * base + digit_value b) before digits

-- at least one digit of the base, with a value below 2^32
unfoldable pub number_in : ℕ → List ℕ → Option ℕ
number_in base digits =
    if nat_lt 0 (length digits) && list_all (λ b. nat_lt (digit_value b) base) digits && nat_lt (value_of_digits base 0 digits) 4294967296
    then Some (value_of_digits base 0 digits)
    else None

-- `0x` and `0b` begin hexadecimal and binary numbers, another 0 before digits an octal one
unfoldable pub digits_number : List ℕ → Option ℕ
digits_number [] = number_in 10 []
digits_number (a ∷ []) = number_in 10 (a ∷ [])
digits_number (a ∷ b ∷ digits) =
    if a == 48 then (if b == 120 then number_in 16 digits else (if b == 98 then number_in 2 digits else number_in 8 (b ∷ digits)))
    else number_in 10 (a ∷ b ∷ digits)
