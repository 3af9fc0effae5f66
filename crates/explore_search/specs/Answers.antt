-- What a search finds.
use Rattle.std.specs.Prelude.{◌≡◌, ℕ, ◌<◌, Bool, true, false, List, length}
use Rattle.std.specs.List.{All, Contains}
use Rattle.machine.specs.declared.choice.Choice.{Choice}
use Rattle.explore_laws.specs.Places.{Place, place_reached}
use Rattle.explore_laws.specs.Safe.{IsSafe}
use Rattle.explore_search.specs.Counted.{IsLedTo, HasPlaces, HasMorePlaces}
use Rattle.explore_search.specs.Searched.{IsSeen}
use Rattle.explore_search.specs.declared.searching.Found.{Found}
use Rattle.explore_search.specs.declared.searching.Found.TheVariants.{Safe, Bad, Undecided}

-- a list of meant choices leads to a bad place, and no shorter one does
pub record LeadsToBad (choices : List Choice) (first : Place) (bad : Place → Bool) (list : List Choice) : Type 0 where
  pub meant : All (Contains choices) list
  pub ends : bad (place_reached first list) ≡ true
  pub shortest : (other : List Choice) → All (Contains choices) other → length other < length list → bad (place_reached first other) ≡ false

-- a search's answer is right: no list of the choices leads to a bad place, or this one does, and no
-- shorter one
abbrev pub SearchAnswers : {Z : Type 0} → List Choice → Place → (Place → Bool) → Found Z → Type 0
SearchAnswers choices first bad (Safe seen) = IsSafe choices first bad
SearchAnswers choices first bad (Bad list) = LeadsToBad choices first bad list.items
SearchAnswers choices first bad Undecided = Unit {0}

-- a search's keys are as many as the places that are reached, and it gives up only where more than
-- `most` are
abbrev pub SearchCounts : {Z : Type 0} → List Choice → Place → ℕ → Found Z → Type 0
SearchCounts choices first most (Safe seen) = HasPlaces choices first (length seen.keys)
SearchCounts choices first most (Bad list) = Unit {0}
SearchCounts choices first most Undecided = HasMorePlaces choices first most

-- keys stand for the places that lists of meant choices lead to, all of them and no other
pub record AreAllReached (IsKey : List ℕ → Type 0) (place : List ℕ → Place) (choices : List Choice) (first : Place)
    (keys : List (List ℕ)) : Type 0 where
  pub are : All IsKey keys
  pub led_to : All (λ key. IsLedTo choices first (place key)) keys
  pub all : (list : List Choice) → All (Contains choices) list → IsSeen place keys (place_reached first list)

-- the keys of a search that has looked at all places are theirs
abbrev pub SearchReaches : {Z : Type 0} → (List ℕ → Type 0) → (List ℕ → Place) → List Choice → Place → Found Z → Type 0
SearchReaches IsKey place choices first (Safe seen) = AreAllReached IsKey place choices first seen.keys
SearchReaches IsKey place choices first (Bad list) = Unit {0}
SearchReaches IsKey place choices first Undecided = Unit {0}
