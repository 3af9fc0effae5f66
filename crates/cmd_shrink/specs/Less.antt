-- A list of choices that is another with choices left out and marks removed.
use Rattle.std.specs.Prelude.{◌≡◌, ◌⊎◌, ℕ, ◌+◌, ◌==◌, Bool, true, false, List, [], ◌∷◌, filter}
use Rattle.machine.specs.declared.choice.Choice.{Choice}

-- a choice is of the same hart as another, and has a mark only if that one has
abbrev pub IsSofter : Choice → Choice → Type 0
IsSofter c given = (c.hart ≡ given.hart) × (c.refuse ≡ true → given.refuse ≡ true)

-- each choice of a list is one of the other's, in the same order, maybe without its mark
unfoldable pub IsLess : List Choice → List Choice → Type 0
IsLess [] given = Unit {0}
IsLess (c ∷ choices) [] = ⊥
IsLess (c ∷ choices) (d ∷ given) = (IsSofter c d × IsLess choices given) ⊎ IsLess (c ∷ choices) given

-- the choices of a hart
abbrev pub choices_of_hart : ℕ → List Choice → List Choice
choices_of_hart hart choices = filter (λ (c : Choice). c.hart == hart) choices

-- each hart's choices in a list are some of its choices in the other, in the same order, maybe
-- without their mark
abbrev pub IsLessOfEach : List Choice → List Choice → Type 0
IsLessOfEach list given = (hart : ℕ) → IsLess (choices_of_hart hart list) (choices_of_hart hart given)

-- a choice counts 1, and its mark 1 more
abbrev pub weight_of : Bool → ℕ
weight_of true = 2
weight_of false = 1

-- the number of choices and marks
unfoldable pub weight : List Choice → ℕ
weight [] = 0
weight (c ∷ choices) = weight_of c.refuse + weight choices
