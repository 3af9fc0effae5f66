-- The order and the shift of signed words, over the integers.
use Rattle.std.specs.Prelude.{ℕ, ℤ, pos, ◌+ℤ◌, ◌*ℤ◌, ◌≤ℤ◌, ◌<ℤ◌}

-- the floor of a quotient: the greatest number whose product with the divisor is at most the number
pub record IsFloor (quotient number : ℤ) (divisor : ℕ) : Type 0 where
  pub below : (pos divisor *ℤ quotient) ≤ℤ number
  pub greatest : number <ℤ (pos divisor *ℤ (quotient +ℤ pos 1))
