use Rattle.std.proofs.Common.{◌≡◌, drop}
use Rattle.explore_sites.specs.Cells.{cell_words}
use Rattle.explore_space.specs.Hashes.{hash_of_cells}
use Rattle.explore_space.proofs.hash.hash_of_cells.Given as goal

-- what is left goes on to the hash of all
abbrev pub invariant-cells : goal.invariant-cells
invariant-cells l = hash_of_cells l.hash (cell_words (drop l.cell-index l.cells)) ≡ hash_of_cells 0 (cell_words l.cells)
