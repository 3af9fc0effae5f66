-- What `%hi` and `%lo` make together.
use Rattle.std.proofs.Common.{◌≡◌, ℕ, ◌+◌, ◌-◌, ◌*◌, ◌/◌, ◌%◌, ◌^◌, ◌<◌, ◌≤◌, refl, arith, Bool, true, false, cond}
use Rattle.std.specs.Prelude.{nat_lt}
use Rattle.std.proofs.lemmas.Bool.{ltb-true, ltb-false}
use Rattle.asm_assemble.specs.Numbers.{hi, lo, distance}

parts_low : (v : ℕ) → v < 2 ^ 32 → v % 2 ^ 12 < 2 ^ 11 → ((v + 0x800) / 2 ^ 12 % 2 ^ 20 * 2 ^ 12 + v % 2 ^ 12) % 2 ^ 32 ≡ v
parts_low v small low = omega (arith, small, low)

parts_high : (v : ℕ) → v < 2 ^ 32 → 2 ^ 11 ≤ v % 2 ^ 12 → ((v + 0x800) / 2 ^ 12 % 2 ^ 20 * 2 ^ 12 + (v % 2 ^ 12 + (2 ^ 32 - 2 ^ 12))) % 2 ^ 32 ≡ v
parts_high v small high = omega (arith, small, high)

pub parts_make : (v : ℕ) → v < 2 ^ 32 → (hi v * 2 ^ 12 + lo v) % 2 ^ 32 ≡ v
unfolding hi lo
parts_make v small = by (nat_lt (v % 2 ^ 12) (2 ^ 11)) refl
  where
    by : (b : Bool) → nat_lt (v % 2 ^ 12) (2 ^ 11) ≡ b
        → ((v + 0x800) / 2 ^ 12 % 2 ^ 20 * 2 ^ 12 + cond b (v % 2 ^ 12) (v % 2 ^ 12 + (2 ^ 32 - 2 ^ 12))) % 2 ^ 32 ≡ v
    by true e = parts_low v small (ltb-true (v % 2 ^ 12) (2 ^ 11) e)
    by false e = parts_high v small (ltb-false (v % 2 ^ 12) (2 ^ 11) e)

-- the distance from an address leads to the target, in two parts too
reaches : (at to d : ℕ) (n : ℕ) → n % 2 ^ 32 ≡ d → d ≡ (to + (2 ^ 32 - at % 2 ^ 32)) % 2 ^ 32 → (at + n) % 2 ^ 32 ≡ to % 2 ^ 32
reaches at to d n e f = omega (arith, e, f)

small_distance : (at to : ℕ) → distance at to < 2 ^ 32
unfolding distance
small_distance at to = omega arith

pub parts_reach : (at to : ℕ) → (at + (hi (distance at to) * 2 ^ 12 + lo (distance at to))) % 2 ^ 32 ≡ to % 2 ^ 32
unfolding distance
parts_reach at to = reaches at to (distance at to) (hi (distance at to) * 2 ^ 12 + lo (distance at to)) (parts_make (distance at to) (small_distance at to)) refl
