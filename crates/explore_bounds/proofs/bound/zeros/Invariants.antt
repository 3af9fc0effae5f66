use Rattle.std.proofs.Common.{◌≡◌, ℕ, Some, length}
use Rattle.std.specs.List.{slice_get}
use Rattle.explore_bounds.proofs.bound.zeros.Given as goal

-- as many zeros are there as were pushed
abbrev pub invariant-zeros : goal.invariant-zeros
invariant-zeros g l = record {
  count : length l.numbers.items ≡ l.counter;
  none : (k n : ℕ) → slice_get l.numbers.items k ≡ Some n → n ≡ 0;
}
