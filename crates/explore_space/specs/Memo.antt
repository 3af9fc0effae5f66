-- Answers that are kept under keys, and what is kept of turns, by the numbers of parts.
use Rattle.std.specs.Prelude.{◌≡◌, ℕ, ◌<◌, ◌⊎◌, if◌then◌else◌, List, [], ◌∷◌, Some, length, slice_get}
use Rattle.image.specs.Image.{ImageValue}
use Rattle.hart_step.specs.declared.hart.Hart.{Hart}
use Rattle.machine.specs.declared.choice.Choice.{Choice}
use Rattle.explore_space.specs.Habits.{Habits}
use Rattle.explore_space.specs.Places.{PartsTurn}
use Rattle.explore_space.specs.declared.shared.Shared.{Shared}

-- under a key this answer is kept
abbrev pub HasAnswer : List (List ℕ) → List (List ℕ) → ℕ → List ℕ → List ℕ → Type 0
HasAnswer keys answers at key answer = (slice_get keys at ≡ Some key) × (slice_get answers at ≡ Some answer)

-- what is kept was kept, or it is this answer under this key
pub record KeepsOne (keys answers more_keys more_answers : List (List ℕ)) (key answer : List ℕ) : Type 0 where
  pub each : (at : ℕ) (other told : List ℕ) → HasAnswer more_keys more_answers at other told
      → HasAnswer keys answers at other told ⊎ ((other ≡ key) × (told ≡ answer))

-- the words of a turn of a hart over what it shares
abbrev pub turn_words : ℕ → ℕ → Choice → List ℕ
turn_words hart shared c = hart ∷ shared ∷ c.hart ∷ (if c.refuse then 1 else 0) ∷ []

-- a hart and what it shares are there, by their numbers
abbrev pub AreThere : {Z : Type 0} → List Hart → List (Shared Z) → ℕ → ℕ → Type 0
AreThere harts shareds hart shared = (hart < length harts) × (shared < length shareds)

-- what is kept of turns is so: under the words of a turn the numbers of the parts behind it, and how
-- many steps its hart takes in it
pub record AreTurns {Z : Type 0} (habits : Habits) (image : ImageValue) (harts : List Hart) (shareds : List (Shared Z))
    (keys answers : List (List ℕ)) : Type 0 where
  pub each : (at hart shared : ℕ) (c : Choice) (new_hart new_shared steps : ℕ)
      → HasAnswer keys answers at (turn_words hart shared c) (new_hart ∷ new_shared ∷ steps ∷ [])
      → AreThere harts shareds hart shared × AreThere harts shareds new_hart new_shared
      × PartsTurn habits image c harts shareds hart shared harts shareds new_hart new_shared steps
