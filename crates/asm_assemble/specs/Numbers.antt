-- Numbers as words, and words as the immediates of instructions.
use Rattle.std.specs.Prelude.{ℕ, ℤ, pos, negsuc, ◌+◌, ◌-◌, ◌/◌, ◌%◌, ◌^◌, ◌==◌, ◌&&◌, ◌||◌, nat_lt, nat_le, Bool, if◌then◌else◌, Result, Ok, Err}
use Rattle.asm_statement.specs.declared.fault.FaultKind.{FaultKind}
use Rattle.asm_statement.specs.declared.fault.FaultKind.TheVariants as kinds
use Rattle.isa_table.specs.Ranges.{sign_extend}

-- a number modulo 2^32
unfoldable pub as_word : ℤ → ℕ
as_word (pos n) = n % 2 ^ 32
as_word (negsuc n) = 2 ^ 32 - 1 - n % 2 ^ 32

-- a number from -low to high - 1
unfoldable pub is_in_range : ℕ → ℕ → ℤ → Bool
is_in_range low high (pos n) = nat_lt n high
is_in_range low high (negsuc n) = nat_lt n low

-- the 12-bit immediate with a number's value
unfoldable pub number12 : ℤ → Result ℕ FaultKind
number12 n = if is_in_range (2 ^ 11) (2 ^ 11) n then Ok (as_word n) else Err kinds.Range

-- the 20-bit immediate with a number's value
unfoldable pub number20 : ℤ → Result ℕ FaultKind
number20 n = if is_in_range 0 (2 ^ 20) n then Ok (as_word n) else Err kinds.Range

-- the shift amount with a number's value
unfoldable pub amount_of : ℤ → Result ℕ FaultKind
amount_of n = if is_in_range 0 (2 ^ 5) n then Ok (as_word n) else Err kinds.Range

-- `%hi(v)`: the upper 20 bits of a value minus `%lo(v)`
unfoldable pub hi : ℕ → ℕ
hi v = (v + 0x800) / 2 ^ 12 % 2 ^ 20

-- `%lo(v)`: the low 12 bits, signed, as the word that they are extended to
unfoldable pub lo : ℕ → ℕ
lo v = sign_extend 12 (v % 2 ^ 12)

-- the distance from an address to a target, modulo 2^32
unfoldable pub distance : ℕ → ℕ → ℕ
distance at target = (target + (2 ^ 32 - at % 2 ^ 32)) % 2 ^ 32

-- whether a word is the sign extension of its low bits, this many
abbrev pub is_signed_word : ℕ → ℕ → Bool
is_signed_word width word = nat_lt word (2 ^ (width - 1)) || nat_le (2 ^ 32 - 2 ^ (width - 1)) word

-- the offset of this many bits of a word: even, and in range
unfoldable pub offset_of : ℕ → ℕ → Result ℕ FaultKind
offset_of width word =
    if is_signed_word width word && word % 2 == 0 then Ok word else Err kinds.BranchRange
