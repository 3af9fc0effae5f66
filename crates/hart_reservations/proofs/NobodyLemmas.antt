-- An array in which no hart has a reservation names none.
use Rattle.std.proofs.Common.{◌≡◌, ℕ, zero, suc, Option, None, get_or, replicate, refl}

pub no_mark : (n k : ℕ) → get_or (replicate {A = Option ℕ} n None) k None ≡ None
no_mark zero k = refl
no_mark (suc n) zero = refl
no_mark (suc n) (suc k) = no_mark n k
