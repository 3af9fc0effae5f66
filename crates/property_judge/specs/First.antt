-- What it means that a property first fails after so many choices.
use Rattle.std.specs.Prelude.{◌≡◌, ℕ, ◌<◌, ◌≤◌, true, false, List, length, take}
use Rattle.machine.specs.World.{World, run}
use Rattle.machine.specs.declared.choice.Choice.{Choice}
use Rattle.property_judge.specs.Property.{holds_in}
use Rattle.property_judge.specs.declared.property.Property.{Property}

-- a property fails after k of the choices, and holds after fewer
pub record IsFirstBreak (property : Property) (w : World) (choices : List Choice) (k : ℕ) : Type 0 where
  pub within : k ≤ length choices
  pub fails : holds_in property (run w (take k choices)) ≡ false
  pub before : (j : ℕ) → j < k → holds_in property (run w (take j choices)) ≡ true

-- a property holds at the start and after each choice
abbrev pub HoldsThroughout : Property → World → List Choice → Type 0
HoldsThroughout property w choices = (j : ℕ) → j ≤ length choices → holds_in property (run w (take j choices)) ≡ true
