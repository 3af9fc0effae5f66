-- What is said of harts' own steps.
use Rattle.std.specs.Prelude.{◌≡◌, ℕ, ◌+◌, ◌<◌, false, List, [], Some, length, slice_get}
use Rattle.std.specs.List.{Contains}
use Rattle.image.specs.Image.{ImageValue}
use Rattle.machine.specs.Start.{started}
use Rattle.machine.specs.World.{World}
use Rattle.machine.specs.declared.choice.Choice.{Choice}
use Rattle.explore_laws.specs.OwnSteps.{HasPlainChoices}
use Rattle.explore_laws.specs.Bounds.{HasNoBound, IsExactBound}
use Rattle.explore_bounds.specs.declared.bound.Bound.{Bound}
use Rattle.explore_bounds.specs.declared.bound.Bound.TheVariants.{After, Never}
use Rattle.explore_space.specs.Every.{meant_choices}
use Rattle.explore_space.specs.declared.exploring.Answer.{Answer}
use Rattle.explore_space.specs.declared.exploring.Answer.TheVariants.{Holds, Fails, Hangs, Undecided}
use Rattle.explore_space.specs.declared.meant.ScRefusals.{ScRefusals}
use Rattle.explore_space.specs.declared.own_bounds.OwnBounds.{OwnBounds}
use Rattle.explore_space.specs.declared.own_bounds.OwnBounds.TheVariants.{Asked, NotAsked}

-- a bound, where so many steps come before those that it counts
abbrev pub later_by : Bound → ℕ → Bound
later_by (After b) n = After (b + n)
later_by Never n = Never

-- each of n harts may be chosen without a refusal, and so may each that may be chosen
pub record MayAllStep (meant : List Choice) (n : ℕ) : Type 0 where
  pub plain : HasPlainChoices meant
  pub each : (h : ℕ) → h < n → Contains meant (record { hart = h; refuse = false })

-- what is said of a hart's own steps is so: a bound is exact, or there is none
abbrev pub TellsOwn : List Choice → World → ℕ → Bound → Type 0
TellsOwn meant first h (After b) = IsExactBound meant first h b
TellsOwn meant first h Never = HasNoBound meant first h

-- what is said of the own steps of each of so many harts is so: over the runs of all lists of meant
-- choices from a world, a bound is exact, or there is none
pub record AreBounds (meant : List Choice) (first : World) (count : ℕ) (bounds : List Bound) : Type 0 where
  pub count_is : length bounds ≡ count
  pub tell : (h : ℕ) (bound : Bound) → slice_get bounds h ≡ Some bound → TellsOwn meant first h bound

-- so it is where bounds are asked for; else there is none
abbrev pub AnswersBounds : OwnBounds → List Choice → World → ℕ → List Bound → Type 0
AnswersBounds Asked meant first count bounds = AreBounds meant first count bounds
AnswersBounds NotAsked meant first count bounds = bounds ≡ []

-- an answer tells the bound of each hart where they are asked for and no list fails or hangs
abbrev pub TellsBounds : {Z : Type 0} → OwnBounds → ScRefusals → ImageValue → List ℕ → Answer Z → Type 0
TellsBounds bounds refusals image inputs (Holds held) =
    AnswersBounds bounds (meant_choices refusals (length inputs)) (started image inputs) (length inputs) held.bounds.items
TellsBounds bounds refusals image inputs (Fails failing) = Unit {0}
TellsBounds bounds refusals image inputs (Hangs hanging) = Unit {0}
TellsBounds bounds refusals image inputs Undecided = Unit {0}
