-- Ways from places to one that has ended.
use Rattle.std.specs.Prelude.{◌≡◌, Bool, true, List}
use Rattle.std.specs.List.{All, Contains}
use Rattle.machine.specs.declared.choice.Choice.{Choice}
use Rattle.explore_laws.specs.Places.{Place, place_reached}

-- some list of meant turns leads from a place to one that has ended
pub record HasWayOut (meant : List Choice) (ended : Place → Bool) (p : Place) : Type 0 where
  pub turns : List Choice
  pub are_meant : All (Contains meant) turns
  pub ends : ended (place_reached p turns) ≡ true

-- wherever a list of meant turns leads, the place has a way out
abbrev pub HaveWaysOut : List Choice → Place → (Place → Bool) → Type 0
HaveWaysOut meant first ended =
    (turns : List Choice) → All (Contains meant) turns
    → HasWayOut meant ended (place_reached first turns)
