-- Numbers in decimal digits.
use Rattle.std.specs.Prelude.{ℕ, ◌&&◌, ◌==◌, nat_lt, List, length, Option, Some, None, if◌then◌else◌}
use Rattle.std.specs.Str.{all_ascii_digits}
use Rattle.text_items.specs.Numbers.{value_after}

-- the number of one or more decimal digits, if it is below a limit; leading zeros are allowed
abbrev pub number_below : ℕ → List ℕ → Option ℕ
number_below limit digits =
    if all_ascii_digits digits && (nat_lt 0 (length digits) && nat_lt (value_after 0 digits) limit)
    then Some (value_after 0 digits) else None

-- a number that is not 0
abbrev pub if_nonzero : ℕ → Option ℕ
if_nonzero n = if n == 0 then None else Some n
