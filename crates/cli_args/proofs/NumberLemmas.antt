-- Numbers above a cap.
use Rattle.std.proofs.Common.{◌≡◌, ℕ, ◌+◌, ◌-◌, ◌*◌, min, List, [], ◌∷◌, arith}
use Rattle.text_items.specs.Numbers.{value_after}

-- what is above the cap may be the cap
pub capped_below : (cap m n : ℕ) (ds : List ℕ) → min cap m ≡ min cap n → min cap (value_after m ds) ≡ min cap (value_after n ds)
capped_below cap m n [] h = h
capped_below cap m n (d ∷ ds) h = capped_below cap (10 * m + (d - 48)) (10 * n + (d - 48)) ds (omega (arith, h))
