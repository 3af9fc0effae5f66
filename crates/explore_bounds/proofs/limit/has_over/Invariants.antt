use Rattle.std.proofs.Common.{◌≡◌, ℕ, ◌<◌, ◌≤◌, Some}
use Rattle.std.specs.List.{slice_get}
use Rattle.explore_bounds.proofs.limit.has_over.Given as goal

-- no number before this one is over the limit
abbrev pub invariant-numbers : goal.invariant-numbers
invariant-numbers l = (k n : ℕ) → k < l.number-index → slice_get l.numbers k ≡ Some n → n ≤ l.limit
