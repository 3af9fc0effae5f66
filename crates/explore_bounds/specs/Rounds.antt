-- Turns that lead round.
use Rattle.std.specs.Prelude.{◌≡◌, ℕ, ◌≤◌, List, Some, slice_get}
use Rattle.std.specs.List.{All, Contains}
use Rattle.machine.specs.declared.choice.Choice.{Choice}
use Rattle.explore_laws.specs.Places.{Place, place_reached}
use Rattle.explore_laws.specs.OwnSteps.{steps_in_turns}
use Rattle.explore_search.specs.Edges.{HaveEdges}
use Rattle.explore_bounds.specs.Steps.{HaveSteps}

-- meant turns lead from a place to another, in which hart h takes n steps or more
pub record LeadsBy (meant : List Choice) (h : ℕ) (p q : Place) (n : ℕ) : Type 0 where
  pub turns : List Choice
  pub are_meant : All (Contains meant) turns
  pub leads : place_reached p turns ≡ q
  pub many : n ≤ steps_in_turns p.stride p.world h turns

-- meant turns lead from some key's place back to it, and hart h steps in them
pub record HasRound (meant : List Choice) (h : ℕ) (place : List ℕ → Place) (keys : List (List ℕ)) : Type 0 where
  pub number : ℕ
  pub key : List ℕ
  pub there : slice_get keys number ≡ Some key
  pub round : LeadsBy meant h (place key) (place key) 1

-- so it is wherever the rows are those of keys
abbrev pub GoRound : List Choice → ℕ → List (List ℕ) → List (List ℕ) → Type 0
GoRound turns h rows steps = (place : List ℕ → Place) (keys : List (List ℕ)) → HaveEdges place turns keys rows
    → HaveSteps place turns keys steps → HasRound turns h place keys
