-- The first world of a run in which a property doesn't hold.
use Rattle.std.specs.Prelude.{ℕ, Bool, not, List, [], ◌∷◌, Option}
use Rattle.std.specs.List.{position_from}
use Rattle.machine.specs.World.{World, step}
use Rattle.machine.specs.declared.choice.Choice.{Choice}
use Rattle.property_judge.specs.Property.{holds_in}
use Rattle.property_judge.specs.declared.property.Property.{Property}

-- the worlds of a run: the one before the first choice, and the one after each
unfoldable pub worlds : World → List Choice → List World
worlds w [] = w ∷ []
worlds w (c ∷ choices) = w ∷ worlds (step w c) choices

-- whether a property fails in a world
abbrev pub fails_in : Property → World → Bool
fails_in property w = not (holds_in property w)

-- after how many choices a property first fails, if k choices have led to the first world
abbrev pub broken_from : Property → ℕ → World → List Choice → Option ℕ
broken_from property k w choices = position_from (fails_in property) k (worlds w choices)

-- after how many choices a property first fails: 0 at the start; `None` if it never does
abbrev pub first_broken : Property → World → List Choice → Option ℕ
first_broken property w choices = broken_from property 0 w choices
