-- How many places lists of choices lead to.
use Rattle.std.specs.Prelude.{◌≡◌, ◌≢◌, ℕ, ◌<◌, List, length}
use Rattle.std.specs.List.{All, AllPairs, Contains}
use Rattle.machine.specs.declared.choice.Choice.{Choice}
use Rattle.explore_laws.specs.Places.{Place, place_reached}

-- some list of meant choices leads to a place
pub record IsLedTo (choices : List Choice) (first p : Place) : Type 0 where
  pub list : List Choice
  pub meant : All (Contains choices) list
  pub leads : place_reached first list ≡ p

-- places that differ, to each of which some list of meant choices leads
pub record AreApart (choices : List Choice) (first : Place) (places : List Place) : Type 0 where
  pub differ : AllPairs (λ p q. p ≢ q) places
  pub led_to : All (IsLedTo choices first) places

-- lists of meant choices lead to so many places
pub record HasPlaces (choices : List Choice) (first : Place) (count : ℕ) : Type 0 where
  pub places : List Place
  pub apart : AreApart choices first places
  pub all : (list : List Choice) → All (Contains choices) list → Contains places (place_reached first list)
  pub count_is : length places ≡ count

-- lists of meant choices lead to more places than so many
pub record HasMorePlaces (choices : List Choice) (first : Place) (most : ℕ) : Type 0 where
  pub places : List Place
  pub apart : AreApart choices first places
  pub more : most < length places
