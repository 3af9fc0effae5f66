-- Where moves stop.
use Rattle.std.proofs.Common.{ℕ, ◌<◌, Option, Some, None, IfSome, arith}
use Rattle.debug_session.specs.Searches.{IsLeastStop}

-- a stop that is found is behind a choice
pub least_above : {R : Type 0} (reason : ℕ → Option R) (from to k : ℕ) (why : Option R)
    → IsLeastStop reason from to k why → IfSome why (λ _. 0 < k)
least_above reason from to k None least = tt
least_above reason from to k (Some stop) least = omega (arith, least.0)
