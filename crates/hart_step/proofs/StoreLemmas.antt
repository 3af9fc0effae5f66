-- Only the low bytes of a value are stored.
use Rattle.std.proofs.Common.{◌≡◌, ℕ, zero, suc, ◌+◌, ◌-◌, ◌/◌, ◌%◌, ◌^◌, ◌<◌, ◌&&◌, leb, ltb, refl, ap, ◌∙◌, arith, inl, inr, Bool, Result, Ok, Err, bit_and}
use Rattle.std.proofs.lemmas.Nat.{and_mask}
use Rattle.std.proofs.lemmas.Bool.{cases_Bool}
use Rattle.std.proofs.lemmas.Bool.Decides.{nat_tests}
use Rattle.mem_store.specs.Memory.{Memory, stored}
use Rattle.mem_store.specs.Access.{Stores}
use Rattle.mem_store.specs.declared.store.StoreFault.{StoreFault}

-- values with the same low n digits are stored alike
same_digits : (n address u v : ℕ) (bytes : ℕ → ℕ) → ((k : ℕ) → k < n → u / 256 ^ k % 256 ≡ v / 256 ^ k % 256)
    → (a : ℕ) → stored n address u bytes a ≡ stored n address v bytes a
same_digits n address u v bytes same a = elim (cases_Bool (leb address a && ltb a (address + n))) [
  | inl within ↦ (let k : a - address < n = grind (arith, nat_tests) in rw within (same (a - address) k))
  | inr outside ↦ rw outside refl
]

byte_digits : (v k : ℕ) → k < 1 → v % 256 / 256 ^ k % 256 ≡ v / 256 ^ k % 256
byte_digits v zero below = omega arith
byte_digits v (suc k) below = absurd (omega arith)

half_digits : (v k : ℕ) → k < 2 → v % 65536 / 256 ^ k % 256 ≡ v / 256 ^ k % 256
half_digits v zero below = omega arith
half_digits v (suc zero) below = omega arith
half_digits v (suc (suc k)) below = absurd (omega arith)

-- a store of one byte depends only on the low byte
pub stored_byte : (address v : ℕ) (bytes : ℕ → ℕ) → stored 1 address (v % 256) bytes ≡ stored 1 address v bytes
stored_byte address v bytes = λ i a. same_digits 1 address (v % 256) v bytes (byte_digits v) a i

-- a store of two bytes depends only on the low half
pub stored_half : (address v : ℕ) (bytes : ℕ → ℕ) → stored 2 address (v % 65536) bytes ≡ stored 2 address v bytes
stored_half address v bytes = λ i a. same_digits 2 address (v % 65536) v bytes (half_digits v) a i

-- values that are stored alike make the same store
same_store : (grows : Bool) (n address u v : ℕ) (old new : Memory) (result : Result (Unit {0}) StoreFault)
    → stored n address u old.bytes ≡ stored n address v old.bytes
    → Stores grows n address u old new result → Stores grows n address v old new result
same_store grows n address u v old new (Ok done) same h =
    (h.0, h.1, h.2 ∙ ap (λ (b : ℕ → ℕ). written_with old b) same)
  where
    written_with : Memory → (ℕ → ℕ) → Memory
    written_with m b = record { rights = m.rights; bytes = b }
same_store grows n address u v old new (Err fault) same h = h

pub store_byte : (grows : Bool) (address v : ℕ) (old new : Memory) (result : Result (Unit {0}) StoreFault)
    → Stores grows 1 address (bit_and v 255) old new result → Stores grows 1 address v old new result
store_byte grows address v old new result h =
    same_store grows 1 address (v % 256) v old new result (stored_byte address v old.bytes) (rw (and_mask v 8) at h)

pub store_half : (grows : Bool) (address v : ℕ) (old new : Memory) (result : Result (Unit {0}) StoreFault)
    → Stores grows 2 address (bit_and v 65535) old new result → Stores grows 2 address v old new result
store_half grows address v old new result h =
    same_store grows 2 address (v % 65536) v old new result (stored_half address v old.bytes) (rw (and_mask v 16) at h)
