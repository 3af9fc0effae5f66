use Rattle.std.proofs.Common.{◌≡◌, ℕ, ◌<◌, ◌≤◌, Some}
use Rattle.std.specs.List.{slice_get}
use Rattle.explore_bounds.proofs.limit.most_in.Given as goal

-- no number before this one is larger
abbrev pub invariant-steps : goal.invariant-steps
invariant-steps l = record {
  low : l.fn.least ≤ l.most;
  most : (i s : ℕ) → i < l.steps-index → slice_get l.row i ≡ Some s → s ≤ l.most;
}
