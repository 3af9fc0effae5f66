-- The choices that a plan refuses.
use Rattle.std.specs.Prelude.{ℕ, ◌==◌, ◌&&◌, Bool, List}
use Rattle.std.specs.List.{list_any}

-- whether the plan contains hart h and the number n of its choice
abbrev pub is_planned : List (ℕ × ℕ) → ℕ → ℕ → Bool
is_planned plan h n = list_any (λ p. p.0 == h && p.1 == n) plan
