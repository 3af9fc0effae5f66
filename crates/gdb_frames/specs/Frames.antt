-- Frames: GDB's manual, "Remote Serial Protocol", "Overview".
use Rattle.std.specs.Prelude.{ℕ, ◌/◌, ◌%◌, ◌==◌, ◌||◌, bit_xor, Bool, List, [], ◌∷◌, ◌++◌, sum, if◌then◌else◌}
use Rattle.gdb_frames.specs.Digits.{hex_digit}

-- the sum of the bytes of the data, modulo 256
abbrev pub checksum : List ℕ → ℕ
checksum body = sum body % 256

-- a byte as two digits
abbrev pub two_digits : ℕ → List ℕ
two_digits n = hex_digit (n / 16) ∷ hex_digit (n % 16) ∷ []

-- `$`, the data, `#` and the checksum
abbrev pub frame : List ℕ → List ℕ
frame body = 36 ∷ (body ++ 35 ∷ two_digits (checksum body))

-- `#`, `$`, `*` and `}` are escaped
abbrev pub is_special : ℕ → Bool
is_special b = b == 35 || (b == 36 || (b == 42 || b == 125))

-- an escaped byte is `}` and the byte with bit 5 changed
abbrev pub escape_of : ℕ → List ℕ
escape_of b = if is_special b then 125 ∷ bit_xor b 32 ∷ [] else b ∷ []

-- a text with its special bytes escaped
unfoldable pub escaped : List ℕ → List ℕ
escaped [] = []
escaped (b ∷ text) = escape_of b ++ escaped text

-- the packet whose data is a text, with its special bytes escaped
abbrev pub framed : List ℕ → List ℕ
framed text = frame (escaped text)
