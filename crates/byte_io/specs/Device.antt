-- Failures of a device's call.
use Rattle.std.specs.Prelude.{◌≡◌, ℕ, ◌+◌, MatchResult}
use Rattle.std.specs.declared.result.Result.{Result}

-- the number of failures rises by one if a call fails, and else stays
abbrev pub CountsFailure : {V E : Type 0} → Result V E → ℕ → ℕ → Type 0
CountsFailure result old new = MatchResult result (λ _. new ≡ old) (λ _. new ≡ old + 1)
