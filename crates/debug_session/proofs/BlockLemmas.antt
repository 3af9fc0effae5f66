-- The number of steps of a search backwards, block by block.
use Rattle.std.proofs.Common.{◌≡◌, ℕ, ◌+◌, ◌-◌, ◌*◌, ◌/◌, ◌<◌, ◌≤◌, arith}

-- position p was found in the block that ends at `end`; `cost` steps led through the blocks after
-- it, `more` through this one
pub steps_of_blocks : (p end limit cost more : ℕ) → 0 < end → cost + end ≡ limit → more + (end - 1) / 256 * 256 ≡ end → (end - 1) / 256 * 256 < p → p ≤ end
    → cost + more ≡ limit - (p - 1) / 256 * 256
steps_of_blocks p end limit cost more some all this above inside =
    let same : (p - 1) / 256 ≡ (end - 1) / 256 = omega arith in
    omega (arith, same)
