use Rattle.std.proofs.Common.{◌≡◌, length}
use Rattle.explore_bounds.proofs.bound.no_hints.Given as goal

-- as many hints are there as were pushed
abbrev pub invariant-hints : goal.invariant-hints
invariant-hints g l = length l.hints.items ≡ l.counter
