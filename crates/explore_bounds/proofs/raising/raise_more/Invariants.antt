use Rattle.std.proofs.Common.{◌≡◌, ◌-◌, ℕ, List, length}
use Rattle.explore_laws.specs.Places.{Place}
use Rattle.explore_search.specs.Edges.{HaveEdges}
use Rattle.explore_bounds.specs.Numbers.{AreTaken, RaisesAll}
use Rattle.explore_bounds.specs.Steps.{HaveSteps}
use Rattle.explore_bounds.proofs.raising.raise_more.Given as goal

-- the keys behind this one were looked at
abbrev pub invariant-keys : goal.invariant-keys
invariant-keys g l = record {
  even : length l.numbers ≡ length l.fn.numbers;
  even_via : length l.via ≡ length l.fn.via;
  raises : RaisesAll l.turns l.hart l.rows l.steps l.fn.numbers l.numbers (l.count - l.back) l.is_more;
  taken : (place : List ℕ → Place) (keys : List (List ℕ)) → HaveEdges place l.turns keys l.rows → HaveSteps place l.turns keys l.steps
      → AreTaken l.turns l.hart place keys l.fn.numbers → AreTaken l.turns l.hart place keys l.numbers;
}
