-- Bytes as pairs of digits.
use Rattle.std.specs.Prelude.{ℕ, ◌+◌, ◌*◌, List, [], ◌∷◌, Option, Some, None}
use Rattle.gdb_frames.specs.Digits.{hex_value}
use Rattle.gdb_requests.specs.Lists.{onto_list}

-- the number of two digits, the higher one first
abbrev pub two_digit_value : Option ℕ → Option ℕ → Option ℕ
two_digit_value None low = None
two_digit_value (Some high) None = None
two_digit_value (Some high) (Some low) = Some (16 * high + low)

abbrev pub byte_of : ℕ → ℕ → Option ℕ
byte_of first second = two_digit_value (hex_value first) (hex_value second)

-- the byte of the two digits at the front
abbrev pub front_byte : List ℕ → Option ℕ
front_byte [] = None
front_byte (first ∷ []) = None
front_byte (first ∷ (second ∷ digits)) = byte_of first second

-- the bytes of pairs of digits
unfoldable pub paired_bytes : List ℕ → Option (List ℕ)
paired_bytes [] = Some []
paired_bytes (first ∷ []) = None
paired_bytes (first ∷ (second ∷ digits)) = onto_list (byte_of first second) (paired_bytes digits)
