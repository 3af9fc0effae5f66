-- Harts that run.
use Rattle.std.proofs.Common.{◌≡◌, ℕ, zero, suc, ◌<◌, true, false, List, [], ◌∷◌, length, arith, sym}
use Rattle.std.proofs.lemmas.Bool.{true≢false}
use Rattle.hart_step.specs.Hart.{HartValue}
use Rattle.machine.specs.Running.{runs}

-- a hart that runs exists
pub runs_below : (harts : List HartValue) (g : ℕ) → runs harts g ≡ true → g < length harts
runs_below [] g h = absurd (true≢false (sym h))
runs_below (hart ∷ harts) zero h = omega arith
runs_below (hart ∷ harts) (suc g) h = let below = runs_below harts g h in omega (arith, below)
