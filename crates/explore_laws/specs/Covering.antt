-- Places that stand for the worlds of runs, in which harts may be some quiet steps behind.
use Rattle.std.specs.Prelude.{◌≡◌, ℕ, ◌<◌, ◌≤◌, true, List, length}
use Rattle.std.specs.List.{All, Contains}
use Rattle.machine.specs.Chosen.{is_chosen}
use Rattle.machine.specs.World.{World, run}
use Rattle.machine.specs.declared.choice.Choice.{Choice}
use Rattle.explore_laws.specs.Places.{Place, place_reached}
use Rattle.explore_laws.specs.Quiet.{OfNextStep, AreQuiet}

-- a world becomes another by quiet steps alone
pub record WorldCovers (quiet : OfNextStep) (ahead w : World) : Type 0 where
  pub choices : List Choice
  pub are_quiet : AreQuiet quiet w choices
  pub leads : run w choices ≡ ahead

-- a place stands for the world that a list of choices leads to: harts may be some quiet steps
-- behind, and each hart that was chosen on the way to the place is chosen in the list
pub record StandsFor (quiet : OfNextStep) (p : Place) (w : World) (choices : List Choice) : Type 0 where
  pub covers : WorldCovers quiet p.world w
  pub fewer : (k : ℕ) → p.chosen k ≡ true → is_chosen choices k ≡ true

-- meant turns from a place, no more than a list has choices, lead to a place that stands for where
-- the list leads from a world
pub record HasTurns (quiet : OfNextStep) (meant : List Choice) (first : Place) (w : World) (choices : List Choice) : Type 0 where
  pub turns : List Choice
  pub are_meant : All (Contains meant) turns
  pub no_more : length turns ≤ length choices
  pub place : StandsFor quiet (place_reached first turns) (run w choices) choices

-- wherever fewer than n meant turns lead, each hart's next step is clear
abbrev pub AreClear : OfNextStep → List Choice → Place → ℕ → Type 0
AreClear clear meant first n =
    (turns : List Choice) (c : Choice) → All (Contains meant) turns → Contains meant c → length turns < n
    → clear (place_reached first turns).world c.hart ≡ true
