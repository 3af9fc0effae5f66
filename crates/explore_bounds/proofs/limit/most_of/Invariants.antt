use Rattle.std.proofs.Common.{◌≡◌, ℕ, ◌<◌, ◌≤◌, List, Some}
use Rattle.std.specs.List.{slice_get}
use Rattle.explore_bounds.proofs.limit.most_of.Given as goal

-- no number of the rows before this one is larger
abbrev pub invariant-rows : goal.invariant-rows
invariant-rows g l = (k i s : ℕ) (row : List ℕ) → k < l.number → slice_get l.rows k ≡ Some row → slice_get row i ≡ Some s → s ≤ l.most
