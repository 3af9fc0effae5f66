-- Numbers above the cap.
use Rattle.std.proofs.Common.{◌≡◌, ℕ, ◌+◌, ◌-◌, ◌*◌, ◌^◌, min, List, [], ◌∷◌, arith}
use Rattle.text_items.specs.Numbers.{value_after}

-- what is above the cap may be the cap
pub capped : (m n : ℕ) (ds : List ℕ) → min (2 ^ 32) m ≡ min (2 ^ 32) n → min (2 ^ 32) (value_after m ds) ≡ min (2 ^ 32) (value_after n ds)
capped m n [] h = h
capped m n (d ∷ ds) h = capped (10 * m + (d - 48)) (10 * n + (d - 48)) ds (omega (arith, h))
