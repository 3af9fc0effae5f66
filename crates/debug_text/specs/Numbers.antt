-- Numbers in commands.
use Rattle.std.specs.Prelude.{ℕ, ◌+◌, ◌-◌, ◌*◌, ◌^◌, ◌&&◌, nat_le, nat_lt, ◌==◌, slice_index, drop, length, Bool, min, List, [], ◌∷◌, Option, Some, None, if◌then◌else◌}
use Rattle.std.specs.Option.{option_map}

-- whether a byte is between two others
abbrev pub is_between : ℕ → ℕ → ℕ → Bool
is_between low high b = nat_le low b && nat_le b high

-- the value of a hexadecimal digit of either case
abbrev pub hex_digit_value : ℕ → Option ℕ
hex_digit_value b =
    if is_between 48 57 b then Some (b - 48)
    else (if is_between 65 70 b then Some (b - 55)
    else (if is_between 97 102 b then Some (b - 87) else None))

-- a digit, if it is one of the base
abbrev pub digit_in : ℕ → Option ℕ → Option ℕ
digit_in base None = None
digit_in base (Some digit) = if nat_lt digit base then Some digit else None

-- the number that a digit makes of n, if there is one, and what `rest` makes of that
abbrev pub with_digit : ℕ → ℕ → (ℕ → Option ℕ) → Option ℕ → Option ℕ
with_digit base n rest None = None
with_digit base n rest (Some digit) = rest (n * base + digit)

-- the number of digits of a base that follow those of n
unfoldable pub number_after : ℕ → ℕ → List ℕ → Option ℕ
number_after base n [] = Some n
number_after base n (b ∷ bs) = with_digit base n (λ m. number_after base m bs) (digit_in base (hex_digit_value b))

-- the number of one or more digits of a base, however many there are
abbrev pub read_digits : ℕ → List ℕ → Option ℕ
read_digits base digits = if length digits == 0 then None else number_after base 0 digits

-- a number, capped at 2^64 - 1: all positions, harts and addresses are below that
abbrev pub held : ℕ → ℕ
held n = min n (2 ^ 64 - 1)

-- the number of digits of a base, capped in this way
abbrev pub held_number : ℕ → List ℕ → Option ℕ
held_number base digits = option_map held (read_digits base digits)

-- a decimal number; leading zeros are allowed
abbrev pub decimal_of : List ℕ → Option ℕ
decimal_of text = held_number 10 text

-- a number, if it fits in 32 bits
abbrev pub in_word : Option ℕ → Option ℕ
in_word None = None
in_word (Some n) = if nat_lt n (2 ^ 32) then Some n else None

-- the number of an address: decimal, or hexadecimal after `0x`
abbrev pub address_number : List ℕ → Option ℕ
address_number text =
    if slice_index text 0 == 48 && slice_index text 1 == 120 then held_number 16 (drop 2 text) else held_number 10 text

-- an address
abbrev pub read_address : List ℕ → Option ℕ
read_address text = in_word (address_number text)
