-- The order and the shift of signed words, over the integers.
use Rattle.std.proofs.Common.{◌≡◌, ℕ, zero, suc, ◌+◌, ◌-◌, ◌*◌, ◌/◌, ◌^◌, ◌<◌, ◌≤◌, true, false, ltb, refl, sym, ap, ◌∙◌, arith, mod-lt, inl, inr, pos, negsuc, ◌+ℤ◌}
use Rattle.std.specs.Prelude.{int_lt}
use Rattle.std.proofs.lemmas.Bool.{cases_Bool}
use Rattle.std.proofs.lemmas.Bool.Decides.{nat_tests}
use Rattle.std.proofs.lemmas.Int.{ints}
use Rattle.std.proofs.lemmas.Nat.{pow_pos, pow-add, div-add-mod', le-div, div_below, shr_le}
use Rattle.isa_table.specs.Signed.{signed_of}
use Rattle.hart_step.specs.Values.{signed_lt, arithmetic_shift}
use Rattle.hart_step.specs.Numbers.{IsFloor}

-- a word that is not negative, and one that is
signed_low : (a : ℕ) → a < 2 ^ 31 → signed_of a ≡ pos a
signed_low a low = let t : ltb a (2 ^ 31) ≡ true = grind (arith, nat_tests) in rw t

signed_high : (a : ℕ) → 2 ^ 31 ≤ a → a < 2 ^ 32 → signed_of a ≡ negsuc (2 ^ 32 - 1 - a)
signed_high a high small =
    let t : ltb a (2 ^ 31) ≡ false = grind (arith, nat_tests) in
    rw t (omega (arith, ints))

pub signed_lt_is : (a b : ℕ) → a < 2 ^ 32 → b < 2 ^ 32 → signed_lt a b ≡ int_lt (signed_of a) (signed_of b)
signed_lt_is a b la lb = elim (cases_Bool (ltb a (2 ^ 31))) [
  | inl x ↦ elim (cases_Bool (ltb b (2 ^ 31))) [
    | inl y ↦ rw (x, y) (grind (arith, nat_tests, ints))
    | inr y ↦ rw (x, y) (grind (arith, nat_tests, ints))
  ]
  | inr x ↦ elim (cases_Bool (ltb b (2 ^ 31))) [
    | inl y ↦ rw (x, y) (grind (arith, nat_tests, ints))
    | inr y ↦ rw (x, y) (grind (arith, nat_tests, ints))
  ]
]

-- ---- the shift
floor_low : (a d q : ℕ) → q * d ≤ a → a < q * d + d → IsFloor (pos q) (pos a) d
floor_low a d q le lt = record { below = omega (arith, ints); greatest = omega (arith, ints) }

floor_high : (w a d n : ℕ) → a < w → d * suc n + a < w + d → w ≤ d * suc n + a → IsFloor (negsuc n) (negsuc (w - 1 - a)) d
floor_high w a d zero small lt le = record { below = omega (arith, ints); greatest = omega (arith, ints) }
floor_high w a d (suc n) small lt le =
    let next : negsuc (suc n) +ℤ pos 1 ≡ negsuc n = omega (arith, ints) in
    record { below = omega (arith, ints); greatest = rw next (omega (arith, ints)) }

le_product : (e d : ℕ) → 0 < d → e ≤ e * d
le_product e zero some = absurd (omega arith)
le_product e (suc d) some = omega arith

shift_low : (a k : ℕ) → a < 2 ^ 31 → IsFloor (signed_of (a / 2 ^ k + 0)) (signed_of a) (2 ^ k)
shift_low a k low =
    let d = pow_pos k in
    let small : a / 2 ^ k + 0 < 2 ^ 31 = omega (arith, shr_le a k) in
    rw (signed_low a low, signed_low (a / 2 ^ k + 0) small)
    (floor_low a (2 ^ k) (a / 2 ^ k + 0) (omega (arith, div-add-mod' a (2 ^ k))) (omega (arith, div-add-mod' a (2 ^ k), mod-lt a d)))

product_parts : (d m q p : ℕ) → suc m + q ≡ p → d * suc m + q * d ≡ p * d
product_parts d m q p e = rw (← e) (omega arith)

-- a negative number's quotient q, with 2 ^ (31 - k) as e and 2 ^ k as d
high_parts : (a q e d p : ℕ) → e * d ≡ 2 ^ 31 → p ≡ 2 * e → e ≤ q → q < p → e ≤ 2 ^ 31 → a < 2 ^ 32 → q * d ≤ a → a < q * d + d
    → (q + (2 ^ 32 - p) < 2 ^ 32) × IsFloor (signed_of (q + (2 ^ 32 - p))) (negsuc (2 ^ 32 - 1 - a)) d
high_parts a q e d p halves whole ge lt least small le gt =
    let same : 2 ^ 32 - 1 - (q + (2 ^ 32 - p)) ≡ p - 1 - q = omega arith in
    let parts : d * suc (p - 1 - q) + q * d ≡ p * d = product_parts d (p - 1 - q) q p (omega arith) in
    let top : p * d ≡ 2 ^ 32 = rw whole (omega arith) in (
      omega arith,
      rw (signed_high (q + (2 ^ 32 - p)) (omega arith) (omega arith), same)
          (floor_high (2 ^ 32) a d (p - 1 - q) small (omega (arith, parts, top)) (omega (arith, parts, top))),
    )

shift_high : (a k : ℕ) → 2 ^ 31 ≤ a → a < 2 ^ 32 → k < 32
    → (a / 2 ^ k + (2 ^ 32 - 2 ^ (32 - k)) < 2 ^ 32) × IsFloor (signed_of (a / 2 ^ k + (2 ^ 32 - 2 ^ (32 - k)))) (signed_of a) (2 ^ k)
shift_high a k high small few =
    let d = pow_pos k in
    let sum : 31 - k + k ≡ 31 = omega arith in
    let more : 32 - k ≡ 1 + (31 - k) = omega arith in
    let halves : 2 ^ (31 - k) * 2 ^ k ≡ 2 ^ 31 = sym (pow-add 2 (31 - k) k) ∙ ap (λ (i : ℕ). 2 ^ i) sum in
    let whole : 2 ^ (32 - k) ≡ 2 * 2 ^ (31 - k) = ap (λ (i : ℕ). 2 ^ i) more ∙ pow-add 2 1 (31 - k) in
    let ge : 2 ^ (31 - k) ≤ a / 2 ^ k = le-div (2 ^ (31 - k)) a (2 ^ k) d (rw halves high) in
    let lt : a / 2 ^ k < 2 * 2 ^ (31 - k) = div_below a (2 ^ k) (2 * 2 ^ (31 - k)) d (omega (arith, halves)) in
    let least : 2 ^ (31 - k) ≤ 2 ^ 31 = rw (← halves) (le_product (2 ^ (31 - k)) (2 ^ k) d) in
    rw (signed_high a high small)
    (high_parts a (a / 2 ^ k) (2 ^ (31 - k)) (2 ^ k) (2 ^ (32 - k)) halves whole ge (omega (arith, whole, lt)) least small
    (omega (arith, div-add-mod' a (2 ^ k))) (omega (arith, div-add-mod' a (2 ^ k), mod-lt a d)))

pub shift_is : (a places : ℕ) → a < 2 ^ 32 → places < 32
    → (arithmetic_shift a places < 2 ^ 32) × IsFloor (signed_of (arithmetic_shift a places)) (signed_of a) (2 ^ places)
shift_is a places small few = elim (cases_Bool (ltb a (2 ^ 31))) [
  | inl x ↦ (let low : a < 2 ^ 31 = grind (arith, nat_tests) in
      let r : arithmetic_shift a places ≡ a / 2 ^ places + 0 = rw x refl in
      rw r (omega (arith, shr_le a places), shift_low a places low))
  | inr x ↦ (let high : 2 ^ 31 ≤ a = grind (arith, nat_tests) in
      let r : arithmetic_shift a places ≡ a / 2 ^ places + (2 ^ 32 - 2 ^ (32 - places)) = rw x refl in
      rw r (shift_high a places high small few))
]
