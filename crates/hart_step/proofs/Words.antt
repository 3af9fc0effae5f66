-- The bitwise operations and shifts of words of 32 bits.
use Rattle.std.proofs.Common.{◌≡◌, ℕ, ◌+◌, ◌-◌, ◌/◌, ◌^◌, ◌<◌, arith, shr_lt, bit_xor, bit_and, bit_or}
use Rattle.std.proofs.lemmas.Nat.Bits.{ones_shr}
use Rattle.hart_step.specs.Values.{bitwise, one_of, both, either}
use Rattle.hart_step.proofs.Bits.{bitwise_xor, bitwise_and, bitwise_or}

pub xor_is : (a b : ℕ) → a < 2 ^ 32 → b < 2 ^ 32 → bitwise 32 one_of a b ≡ bit_xor a b
xor_is = bitwise_xor 32

pub and_is : (a b : ℕ) → a < 2 ^ 32 → b < 2 ^ 32 → bitwise 32 both a b ≡ bit_and a b
and_is = bitwise_and 32

pub or_is : (a b : ℕ) → a < 2 ^ 32 → b < 2 ^ 32 → bitwise 32 either a b ≡ bit_or a b
or_is = bitwise_or 32

pub high_ones : (k : ℕ) → k < 32 → 0xFFFFFFFF / 2 ^ k ≡ 2 ^ (32 - k) - 1
high_ones k lt = ones_shr 32 k (omega arith)

pub shift_room : (a k : ℕ) → a < 2 ^ 32 → k < 32 → a / 2 ^ k < 2 ^ (32 - k)
shift_room a k small lt = let e : 32 - k + k ≡ 32 = omega arith in shr_lt (32 - k) k (rw e small)
