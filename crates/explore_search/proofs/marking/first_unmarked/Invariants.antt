use Rattle.std.proofs.Common.{◌≡◌, ℕ, ◌<◌, true, Some}
use Rattle.std.specs.List.{slice_get}
use Rattle.explore_search.proofs.marking.first_unmarked.Given as goal

-- those before this one have marks
abbrev pub invariant-marks : goal.invariant-marks
invariant-marks l = (k : ℕ) → k < l.number → slice_get l.marks k ≡ Some true
