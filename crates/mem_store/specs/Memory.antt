-- Memory as contracts see it: a map from addresses to a byte and its rights.
use Rattle.std.specs.Prelude.{ℕ, suc, zero, ◌+◌, ◌-◌, ◌*◌, ◌/◌, ◌%◌, ◌^◌, Bool, true, false, not, ◌&&◌, ◌==◌, nat_le, nat_lt, if◌then◌else◌, Option, Some, None, bit_and}

-- the rights of each mapped address, and the byte of each address, which is 0 if it is not mapped
pub record Memory : Type 0 where
  pub rights : ℕ → Option ℕ
  pub bytes : ℕ → ℕ

-- rights: 1 to execute, 2 to write, 4 to read, as in p_flags (System V ELF, "Program Header")
abbrev pub to_execute : ℕ
to_execute = 1

abbrev pub to_write : ℕ
to_write = 2

-- a load needs any right
abbrev pub to_load : ℕ
to_load = 7

-- whether a byte has one of the wanted rights
abbrev pub grants : ℕ → Option ℕ → Bool
grants wanted None = false
grants wanted (Some given) = not (bit_and given wanted == 0)

-- each number below n passes the test
abbrev pub all_below : ℕ → (ℕ → Bool) → Bool
all_below zero test = true
all_below (suc n) test = all_below n test && test n

-- whether each of the n bytes from an address on has one of the wanted rights
abbrev pub granted : ℕ → Memory → ℕ → ℕ → Bool
granted wanted m n address = all_below n (λ k. grants wanted (m.rights (address + k)))

-- n bytes as a number, little-endian (Unprivileged ISA, "RV32I")
abbrev pub little_endian : ℕ → (ℕ → ℕ) → ℕ
little_endian zero byte = 0
little_endian (suc n) byte = little_endian n byte + byte n * 256 ^ n

-- the number in the n bytes from an address on
abbrev pub number_at : (ℕ → ℕ) → ℕ → ℕ → ℕ
number_at bytes n address = little_endian n (λ k. bytes (address + k))

-- the memory with its addresses modulo 2^32
abbrev pub around : Memory → Memory
around m = record { rights = λ a. m.rights (a % 2 ^ 32); bytes = λ a. m.bytes (a % 2 ^ 32) }

-- the bytes in which the n from an address on spell the low digits of a value
abbrev pub stored : ℕ → ℕ → ℕ → (ℕ → ℕ) → ℕ → ℕ
stored n address value bytes a =
    if nat_le address a && nat_lt a (address + n) then value / 256 ^ (a - address) % 256 else bytes a
