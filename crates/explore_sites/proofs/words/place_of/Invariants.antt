use Rattle.std.proofs.Common.{◌≡◌, ◌<◌, ℕ, Some}
use Rattle.std.specs.List.{slice_get}
use Rattle.explore_sites.specs.declared.cell.Cell.{Cell}
use Rattle.explore_sites.proofs.words.place_of.Given as goal

-- the cells so far are below the address
abbrev pub invariant-cells : goal.invariant-cells
invariant-cells l = (k : ℕ) (cell : Cell) → k < l.at → slice_get l.cells k ≡ Some cell → cell.address < l.address
