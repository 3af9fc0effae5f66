use Rattle.std.proofs.Common.{◌≡◌, ℕ, List, Some, length}
use Rattle.std.specs.List.{slice_get}
use Rattle.explore_laws.specs.Places.{Place}
use Rattle.explore_search.specs.Edges.{Lead}
use Rattle.explore_bounds.specs.Numbers.{AreTaken, RaisesOne}
use Rattle.explore_bounds.specs.Steps.{AreStepsFrom}
use Rattle.explore_bounds.proofs.raising.raise_one.Given as goal

-- the turns before this one were looked at
abbrev pub invariant-turns : goal.invariant-turns
invariant-turns l = record {
  even : length l.numbers ≡ length l.fn.numbers;
  raises : RaisesOne l.turns l.hart l.row l.steps l.fn.numbers l.numbers l.number l.i l.is_more;
  taken : (place : List ℕ → Place) (keys : List (List ℕ)) (key : List ℕ) → slice_get keys l.number ≡ Some key
      → Lead place l.turns keys (place key) l.row → AreStepsFrom l.turns (place key) l.steps
      → AreTaken l.turns l.hart place keys l.fn.numbers → AreTaken l.turns l.hart place keys l.numbers;
}
