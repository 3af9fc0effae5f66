-- The steps that a hart takes in turns, and what bounds them.
use Rattle.std.specs.Prelude.{◌≡◌, ℕ, ◌+◌, ◌<◌, ◌≤◌, ◌==◌, ◌&&◌, true, false, if◌then◌else◌, List, [], ◌∷◌, Option, Some, slice_get}
use Rattle.std.specs.List.{All, Contains}
use Rattle.machine.specs.World.{World, step}
use Rattle.machine.specs.declared.choice.Choice.{Choice}
use Rattle.explore_laws.specs.Quiet.{OfNextStep}
use Rattle.explore_laws.specs.Settling.{Stride, world_settled}
use Rattle.explore_laws.specs.Places.{Place, place_after, place_reached}
use Rattle.explore_laws.specs.Bounds.{runs_in}

-- the steps of hart h in a turn: where the turn is its own and it runs, the step that is chosen and
-- those that it takes at once behind it
abbrev pub steps_in_turn : Stride → World → ℕ → Choice → ℕ
steps_in_turn stride w h c = if c.hart == h && runs_in w h then 1 + stride (step w c) c.hart else 0

-- its steps in turns, one after another
unfoldable pub steps_in_turns : Stride → World → ℕ → List Choice → ℕ
steps_in_turns stride w h [] = 0
steps_in_turns stride w h (c ∷ turns) =
    steps_in_turn stride w h c + steps_in_turns stride (world_settled stride (step w c) c.hart) h turns

-- each hart that may be chosen may be chosen without a refusal
abbrev pub HasPlainChoices : List Choice → Type 0
HasPlainChoices meant = (c : Choice) → Contains meant c → Contains meant (record { hart = c.hart; refuse = false })

-- a place is that of some key with this number
pub record IsNumbered (place : List ℕ → Place) (keys : List (List ℕ)) (numbers : List ℕ) (p : Place) (n : ℕ) : Type 0 where
  pub index : ℕ
  pub key : List ℕ
  pub there : slice_get keys index ≡ Some key
  pub is : place key ≡ p
  pub number_is : slice_get numbers index ≡ Some n

-- each turn from a key's place leads to that of a key whose number is less by hart h's steps in the
-- turn, or by more
abbrev pub NumbersFall : List Choice → ℕ → (List ℕ → Place) → List (List ℕ) → List ℕ → Type 0
NumbersFall meant h place keys numbers =
    (k : ℕ) (key : List ℕ) (n : ℕ) (c : Choice) → slice_get keys k ≡ Some key → slice_get numbers k ≡ Some n
    → Contains meant c
    → (m : ℕ) × IsNumbered place keys numbers (place_after (place key) c) m
    × (steps_in_turn (place key).stride (place key).world h c + m ≤ n)

-- at each key's place the next step of each hart that may be chosen is clear
abbrev pub KeysAreClear : OfNextStep → List Choice → (List ℕ → Place) → List (List ℕ) → Type 0
KeysAreClear clear meant place keys =
    (k : ℕ) (key : List ℕ) (c : Choice) → slice_get keys k ≡ Some key → Contains meant c → clear (place key).world c.hart ≡ true

-- meant turns from a place in which hart h takes n steps
pub record HasPath (meant : List Choice) (h : ℕ) (p : Place) (n : ℕ) : Type 0 where
  pub turns : List Choice
  pub are_meant : All (Contains meant) turns
  pub steps : steps_in_turns p.stride p.world h turns ≡ n

-- each key's place has a path with as many steps as its number says
abbrev pub NumbersAreTaken : List Choice → ℕ → (List ℕ → Place) → List (List ℕ) → List ℕ → Type 0
NumbersAreTaken meant h place keys numbers =
    (k : ℕ) (key : List ℕ) (n : ℕ) → slice_get keys k ≡ Some key → slice_get numbers k ≡ Some n → HasPath meant h (place key) n

-- meant turns lead to a place, and others from there back to the same world; hart h steps in these
pub record GoesRound (meant : List Choice) (h : ℕ) (first : Place) : Type 0 where
  pub place : Place
  pub there : List Choice
  pub there_meant : All (Contains meant) there
  pub leads : place_reached first there ≡ place
  pub round : List Choice
  pub round_meant : All (Contains meant) round
  pub back : (place_reached place round).world ≡ place.world
  pub steps : 0 < steps_in_turns place.stride place.world h round
