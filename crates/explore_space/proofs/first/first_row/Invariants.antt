use Rattle.std.proofs.Common.{◌≡◌, ℕ, ◌*◌, ◌<◌, length}
use Rattle.std.specs.List.{slice_index}
use Rattle.explore_space.proofs.first.first_row.Given as goal

abbrev pub invariant-harts : goal.invariant-harts
invariant-harts g l = record {
  len : length l.row.items ≡ l.k;
  harts : (j : ℕ) → j < l.k → slice_index l.row.items j ≡ 2 * j;
}
