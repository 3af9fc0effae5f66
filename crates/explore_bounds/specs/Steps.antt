-- How many steps turns take, and what is said of a hart's own steps.
use Rattle.std.specs.Prelude.{◌≡◌, ℕ, ◌+◌, ◌<◌, List, Some, length, slice_get}
use Rattle.machine.specs.World.{World}
use Rattle.machine.specs.declared.choice.Choice.{Choice}
use Rattle.explore_laws.specs.Places.{Place}
use Rattle.explore_laws.specs.OwnSteps.{steps_in_turn}
use Rattle.explore_laws.specs.Bounds.{IsBound, HasNoBound, RunsAfter}
use Rattle.explore_search.specs.Counted.{IsLedTo}
use Rattle.explore_bounds.specs.declared.bound.Bound.{Bound}
use Rattle.explore_bounds.specs.declared.bound.Bound.TheVariants.{After, Never}

-- number i of a row is how many steps the hart of turn i takes in it
pub record AreStepsFrom (turns : List Choice) (p : Place) (row : List ℕ) : Type 0 where
  pub count : length row ≡ length turns
  pub are : (i s : ℕ) (c : Choice) → slice_get row i ≡ Some s → slice_get turns i ≡ Some c
      → s ≡ steps_in_turn p.stride p.world c.hart c

-- each key's place has such a row
pub record HaveSteps (place : List ℕ → Place) (turns : List Choice) (keys steps : List (List ℕ)) : Type 0 where
  pub count : length steps ≡ length keys
  pub from : (k : ℕ) (key row : List ℕ) → slice_get keys k ≡ Some key → slice_get steps k ≡ Some row
      → AreStepsFrom turns (place key) row

-- the first key is that of the first place, and turns lead to each key's place
pub record AreLedTo (turns : List Choice) (first : Place) (place : List ℕ → Place) (keys : List (List ℕ)) : Type 0 where
  pub first_key : List ℕ
  pub at_first : slice_get keys 0 ≡ Some first_key
  pub is_first : place first_key ≡ first
  pub led_to : (k : ℕ) (key : List ℕ) → slice_get keys k ≡ Some key → IsLedTo turns first (place key)

-- what is said of a hart's own steps is so, where turns start from a first world, and runs from one
-- that is `late` of the hart's steps behind it
abbrev pub TellsBound : List Choice → World → World → ℕ → ℕ → Bound → Type 0
TellsBound meant first w late h (After b) =
    IsBound meant w h (b + late) × ((n : ℕ) → n < b → RunsAfter meant first h n)
TellsBound meant first w late h Never = HasNoBound meant first h
