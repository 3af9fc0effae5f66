-- The step that ended each hart's last reservation.
use Rattle.std.proofs.Common.{◌≡◌, ℕ, zero, suc, get_or, replicate, Option, None, refl}
use Rattle.trace_steps.specs.declared.ending.Ending.{Ending}

-- an array in which no end is noted has none
pub none_ended : (n k : ℕ) → get_or (replicate {A = Option Ending} n None) k None ≡ None
none_ended zero k = refl
none_ended (suc n) zero = refl
none_ended (suc n) (suc k) = none_ended n k
