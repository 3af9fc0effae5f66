use Rattle.std.proofs.Common.{◌≡◌, take}
use Rattle.explore_sites.specs.Cells.{cell_words}
use Rattle.explore_sites.proofs.sameness.are_same.Given as goal

-- the cells so far are the same
abbrev pub invariant-cells : goal.invariant-cells
invariant-cells l = cell_words (take l.at l.one) ≡ cell_words (take l.at l.other)
