-- Turns that never lead to a bad place.
use Rattle.std.specs.Prelude.{◌≡◌, Bool, false, List}
use Rattle.std.specs.List.{All, Contains}
use Rattle.machine.specs.declared.choice.Choice.{Choice}
use Rattle.explore_laws.specs.Places.{Place, place_reached}

-- wherever a list of meant turns leads, it isn't bad there
abbrev pub IsSafe : List Choice → Place → (Place → Bool) → Type 0
IsSafe meant first bad = (turns : List Choice) → All (Contains meant) turns → bad (place_reached first turns) ≡ false
