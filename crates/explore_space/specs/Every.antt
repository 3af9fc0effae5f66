-- What every schedule of a program does.
use Rattle.std.specs.Prelude.{◌≡◌, ◌≢◌, ℕ, zero, suc, ◌<◌, Bool, true, false, ◌||◌, List, [], ◌∷◌, ◌++◌, length, Option}
use Rattle.std.specs.List.{All, AllPairs, Contains}
use Rattle.image.specs.Image.{ImageValue}
use Rattle.machine.specs.Start.{started}
use Rattle.machine.specs.World.{World, run}
use Rattle.machine.specs.declared.choice.Choice.{Choice}
use Rattle.object_library.specs.declared.kind.Kind.{Kind}
use Rattle.outcome.specs.Expect.{fails, judged}
use Rattle.outcome.specs.Outcome.{some_run}
use Rattle.outcome.specs.declared.expect.Exit.{Exit}
use Rattle.outcome.specs.declared.expect.Exit.TheVariants.{May, Must}
use Rattle.explore_space.specs.declared.section.Section.{Section}
use Rattle.explore_sites.specs.Own.{Owners}
use Rattle.explore_search.specs.Counted.{HasPlaces, HasMorePlaces}
use Rattle.explore_space.specs.Begun.{choices_from_start, turns_start}
use Rattle.explore_space.specs.Habits.{habits_with}
use Rattle.explore_space.specs.Ends.{EndValue, end_with, ends_in}
use Rattle.explore_space.specs.Failing.{breaks_asked}
use Rattle.explore_space.specs.declared.exploring.Answer.{Answer}
use Rattle.explore_space.specs.declared.exploring.Answer.TheVariants.{Holds, Fails, Hangs, Undecided}
use Rattle.explore_space.specs.declared.meant.ScRefusals.{ScRefusals}
use Rattle.explore_space.specs.declared.meant.ScRefusals.TheVariants.{Also, Never}
use Rattle.explore_space.specs.declared.question.Always.{Always}

-- the choices of a hart: the plain one, and the one that refuses its store-conditional if that is
-- meant too
abbrev pub hart_choices : ScRefusals → ℕ → List Choice
hart_choices Also h = record { hart = h; refuse = false } ∷ record { hart = h; refuse = true } ∷ []
hart_choices Never h = record { hart = h; refuse = false } ∷ []

-- the choices of n harts
unfoldable pub meant_choices : ScRefusals → ℕ → List Choice
meant_choices refusals zero = []
meant_choices refusals (suc n) = meant_choices refusals n ++ hart_choices refusals n

-- a list has no other choices than these
abbrev pub IsListOf : List Choice → List Choice → Type 0
IsListOf meant choices = All (Contains meant) choices

-- whether the run of a list of choices from a program's start fails: behind it a word isn't what it
-- must be, or two harts stand in a section, or its rule is broken, or without a rule a hart has faulted
abbrev pub run_fails : Option Kind → Option Always → Option Section → ImageValue → List ℕ → List Choice → Bool
run_fails rule always section image inputs choices =
    breaks_asked always section (run (started image inputs) choices)
    || fails May (judged rule inputs choices (run (started image inputs) choices).harts)

-- a list of these choices fails: for some owners of words it is the choices of so many turns, and
-- neither fewer turns nor fewer choices do
pub record FailsFirst (section : Option Section) (meant : List Choice) (first : World) (is_failing : List Choice → Bool)
    (choices : List Choice) (count : ℕ) : Type 0 where
  pub owners : Owners
  pub turns : List Choice
  pub meant_turns : IsListOf meant turns
  pub count_is : length turns ≡ count
  pub choices_are : choices ≡ choices_from_start (habits_with section owners) first turns
  pub meant_ones : IsListOf meant choices
  pub fails : is_failing choices ≡ true
  pub fewest : (other : List Choice) → IsListOf meant other → length other < count → is_failing (choices_from_start (habits_with section owners) first other) ≡ false
  pub shortest : (other : List Choice) → IsListOf meant other → length other < count → is_failing other ≡ false

-- an answer holds of every schedule: no list of the harts' choices fails, or this one does; where
-- it is undecided, nothing is said, and where one hangs, none fails
abbrev pub HoldsOfEvery : {Z : Type 0} → Option Kind → Option Always → Option Section → ScRefusals → ImageValue → List ℕ → Answer Z → Type 0
HoldsOfEvery rule always section refusals image inputs (Holds held) =
    (choices : List Choice) → IsListOf (meant_choices refusals (length inputs)) choices
    → run_fails rule always section image inputs choices ≡ false
HoldsOfEvery rule always section refusals image inputs (Fails failing) =
    FailsFirst section (meant_choices refusals (length inputs)) (started image inputs) (run_fails rule always section image inputs)
    failing.choices.items failing.turns
HoldsOfEvery rule always section refusals image inputs (Hangs hanging) =
    (choices : List Choice) → IsListOf (meant_choices refusals (length inputs)) choices
    → run_fails rule always section image inputs choices ≡ false
HoldsOfEvery rule always section refusals image inputs Undecided = Unit {0}

-- an answer counts places: for some owners of words, turns lead to so many where nothing fails, and
-- to more than `most` where it is undecided
abbrev pub CountsPlaces : {Z : Type 0} → Option Section → ScRefusals → ImageValue → List ℕ → ℕ → Answer Z → Type 0
CountsPlaces section refusals image inputs most (Holds held) =
    (owners : Owners) × HasPlaces (meant_choices refusals (length inputs)) (turns_start (habits_with section owners) (started image inputs)) held.places
CountsPlaces section refusals image inputs most (Fails failing) = Unit {0}
CountsPlaces section refusals image inputs most (Hangs hanging) = Unit {0}
CountsPlaces section refusals image inputs most Undecided =
    (owners : Owners) × HasMorePlaces (meant_choices refusals (length inputs)) (turns_start (habits_with section owners) (started image inputs)) most

-- no hart runs after a list of choices from a program's start
abbrev pub StopsAll : ImageValue → List ℕ → List Choice → Type 0
StopsAll image inputs choices = some_run (run (started image inputs) choices).harts ≡ false

-- how its run ends: how many harts ended in each way, the verdict, and what each has in a0 and a1
abbrev pub run_end : Option Kind → ImageValue → List ℕ → List Choice → EndValue
run_end rule image inputs choices =
    end_with (judged rule inputs choices (run (started image inputs) choices).harts) (run (started image inputs) choices).harts

-- an end is that of some list of the harts' choices after which no hart runs
pub record IsEndOfSome (rule : Option Kind) (refusals : ScRefusals) (image : ImageValue) (inputs : List ℕ) (end : EndValue) : Type 0 where
  pub choices : List Choice
  pub meant_ones : IsListOf (meant_choices refusals (length inputs)) choices
  pub stops : StopsAll image inputs choices
  pub is : run_end rule image inputs choices ≡ end

-- ends are those of the lists of the harts' choices after which no hart runs: all of them, each
-- once, and no other
pub record AreAllEnds (rule : Option Kind) (refusals : ScRefusals) (image : ImageValue) (inputs : List ℕ) (ends : List EndValue) : Type 0 where
  pub all : (choices : List Choice) → IsListOf (meant_choices refusals (length inputs)) choices → StopsAll image inputs choices
      → Contains ends (run_end rule image inputs choices)
  pub each : (end : EndValue) → Contains ends end → IsEndOfSome rule refusals image inputs end
  pub once : AllPairs (λ a b. a ≢ b) ends

-- an answer tells all ends, where no list fails
abbrev pub TellsEnds : {Z : Type 0} → Option Kind → ScRefusals → ImageValue → List ℕ → Answer Z → Type 0
TellsEnds rule refusals image inputs (Holds held) = AreAllEnds rule refusals image inputs (ends_in held.ends)
TellsEnds rule refusals image inputs (Fails failing) = Unit {0}
TellsEnds rule refusals image inputs (Hangs hanging) = Unit {0}
TellsEnds rule refusals image inputs Undecided = Unit {0}

-- some list of the harts' choices leads from a world to one in which no hart runs
pub record HasExit (meant : List Choice) (w : World) : Type 0 where
  pub choices : List Choice
  pub meant_ones : IsListOf meant choices
  pub stops : some_run (run w choices).harts ≡ false

-- a list of these choices leads to a world that has no way out; for some owners of words it is the
-- choices of so many turns, and the worlds of fewer turns, and those of fewer choices, have one
pub record HangsFirst (section : Option Section) (meant : List Choice) (first : World) (choices : List Choice) (count : ℕ)
    : Type 0 where
  pub owners : Owners
  pub turns : List Choice
  pub meant_turns : IsListOf meant turns
  pub count_is : length turns ≡ count
  pub choices_are : choices ≡ choices_from_start (habits_with section owners) first turns
  pub meant_ones : IsListOf meant choices
  pub hangs : HasExit meant (run first choices) → ⊥
  pub fewest : (other : List Choice) → IsListOf meant other → length other < count
      → HasExit meant (run first (choices_from_start (habits_with section owners) first other))
  pub shortest : (other : List Choice) → IsListOf meant other → length other < count
      → HasExit meant (run first other)

-- an answer tells of ways out where they are asked for: each world that a list of the harts'
-- choices leads to has one, or this list leads to one that has none
abbrev pub TellsExits : {Z : Type 0} → Option Section → Exit → ScRefusals → ImageValue → List ℕ → Answer Z → Type 0
TellsExits section May refusals image inputs (Holds held) = Unit {0}
TellsExits section May refusals image inputs (Fails failing) = Unit {0}
TellsExits section May refusals image inputs (Hangs hanging) = ⊥
TellsExits section May refusals image inputs Undecided = Unit {0}
TellsExits section Must refusals image inputs (Holds held) =
    (choices : List Choice) → IsListOf (meant_choices refusals (length inputs)) choices
    → HasExit (meant_choices refusals (length inputs)) (run (started image inputs) choices)
TellsExits section Must refusals image inputs (Fails failing) = Unit {0}
TellsExits section Must refusals image inputs (Hangs hanging) =
    HangsFirst section (meant_choices refusals (length inputs)) (started image inputs)
    hanging.choices.items hanging.turns
TellsExits section Must refusals image inputs Undecided = Unit {0}
