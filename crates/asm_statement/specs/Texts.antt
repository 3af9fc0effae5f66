-- The bytes of strings.
use Rattle.std.specs.Prelude.{ℕ, zero, suc, ◌+◌, ◌*◌, ◌-◌, ◌==◌, ◌&&◌, nat_lt, nat_le, min, List, [], ◌∷◌, ◌++◌, length, take, drop, slice_index, Bool, if◌then◌else◌, Option, Some, None, Result, Ok, Err}
use Rattle.asm_statement.specs.declared.fault.FaultKind.{FaultKind}
use Rattle.asm_statement.specs.declared.fault.FaultKind.TheVariants as faults

abbrev pub is_octal : ℕ → Bool
is_octal b = nat_le 48 b && nat_le b 55

-- the octal digit at a place, if there is one
abbrev pub octal_at : List ℕ → ℕ → Option ℕ
octal_at text place = if nat_lt place (length text) && is_octal (slice_index text place) then Some (slice_index text place - 48) else None

-- the byte of octal digits, and their number
abbrev byte_of_digits : Option ℕ → Option ℕ → Option ℕ → Option (ℕ × ℕ)
byte_of_digits (Some a) (Some b) (Some c) = if nat_lt a 4 then Some (a * 64 + b * 8 + c, 3) else None
byte_of_digits (Some a) (Some b) None = Some (a * 8 + b, 2)
byte_of_digits (Some a) None c = Some (a, 1)
byte_of_digits None b c = None

-- one to three octal digits of a byte
unfoldable pub octal_escape : List ℕ → Option (ℕ × ℕ)
octal_escape text = byte_of_digits (octal_at text 0) (octal_at text 1) (octal_at text 2)

-- a line feed, a tab, a carriage return, a backslash, a quote
abbrev pub plain_escape : ℕ → Option ℕ
plain_escape b =
    if b == 110 then Some 10 else
    (if b == 116 then Some 9 else
    (if b == 114 then Some 13 else
    (if b == 92 then Some 92 else
    (if b == 34 then Some 34 else None))))

abbrev or_octal : Option ℕ → List ℕ → Option (ℕ × ℕ)
or_octal (Some b) text = Some (b, 1)
or_octal None text = octal_escape text

-- the byte of an escape, and the number of bytes that it takes after the backslash
unfoldable pub escape : List ℕ → Option (ℕ × ℕ)
escape [] = None
escape (b ∷ bs) = or_octal (plain_escape b) (b ∷ bs)

abbrev escaped : Option (ℕ × ℕ) → Option (ℕ × ℕ)
escaped (Some e) = Some (e.0, e.1 + 1)
escaped None = None

-- the byte at the front of a text, and the number of bytes that it takes
unfoldable pub byte_in_front : List ℕ → Option (ℕ × ℕ)
byte_in_front [] = None
byte_in_front (b ∷ bs) = if b == 92 then escaped (escape bs) else Some (b, 1)

abbrev pub with_byte : Option (ℕ × ℕ) → (ℕ → ℕ → Result (List ℕ) FaultKind) → Result (List ℕ) FaultKind
with_byte (Some e) next = next e.0 e.1
with_byte None next = Err faults.Operands

-- the bytes of a text after those done; its first `inside` bytes belong to the escape before
unfoldable pub said_from : ℕ → List ℕ → List ℕ → Result (List ℕ) FaultKind
said_from inside done [] = Ok done
said_from (suc inside) done (b ∷ bs) = said_from inside done bs
said_from zero done (b ∷ bs) = with_byte (byte_in_front (b ∷ bs)) (λ byte len. said_from (len - 1) (done ++ byte ∷ []) bs)

-- the bytes between the quotes of a string
abbrev pub between_quotes : List ℕ → List ℕ
between_quotes quoted = drop (min (length quoted - 1) 1) (take (length quoted - 1) quoted)

-- the bytes of a string, after those done
abbrev pub quoted_bytes : List ℕ → List ℕ → Result (List ℕ) FaultKind
quoted_bytes done quoted = said_from 0 done (between_quotes quoted)
