-- The preemptions of a list of choices, as the literature counts them.
use Rattle.std.specs.Prelude.{◌≡◌, ℕ, ◌+◌, ◌<◌, ◌≤◌, ◌⊎◌, true, false, if◌then◌else◌}
use Rattle.std.specs.Prelude.{List, [], ◌∷◌, Option, Some, None, length}
use Rattle.machine.specs.Running.{runs}
use Rattle.machine.specs.World.{World, step, run}
use Rattle.machine.specs.declared.choice.Choice.{Choice}
use Rattle.sched_draw.specs.Turns.{plain_choice}
use Rattle.campaign_bounded.specs.Bounded.{preemption}

-- the number of choices of a list that leave a hart though it can go on
abbrev pub preemptions_after : World → Option ℕ → List Choice → ℕ
preemptions_after w last [] = 0
preemptions_after w last (c ∷ choices) =
    preemption w last c.hart + preemptions_after (step w c) (Some c.hart) choices

-- those of a run
abbrev pub preemptions : World → List Choice → ℕ
preemptions start choices = preemptions_after start None choices

-- each choice is plain, and of a hart that runs in the world before it
abbrev pub AreOfRunning : World → List Choice → Type 0
AreOfRunning w [] = Unit {0}
AreOfRunning w (c ∷ choices) =
    (c ≡ plain_choice c.hart) × (runs w.harts c.hart ≡ true) × AreOfRunning (step w c) choices

-- no hart runs
abbrev pub NoneRuns : World → Type 0
NoneRuns w = (hart : ℕ) → runs w.harts hart ≡ false

-- a list has so many choices, or fewer and no hart runs after it
abbrev pub IsToTheEnd : ℕ → World → List Choice → Type 0
IsToTheEnd most w choices =
    (length choices ≡ most) ⊎ ((length choices < most) × NoneRuns (run w choices))

-- a schedule of at most so many choices, with at most k preemptions, that goes on while it can
pub record IsBoundedSchedule (most k : ℕ) (w : World) (choices : List Choice) : Type 0 where
  pub steps : AreOfRunning w choices
  pub few : preemptions w choices ≤ k
  pub whole : IsToTheEnd most w choices

-- a list without the choices of harts that don't run
abbrev pub steps_of : World → List Choice → List Choice
steps_of w [] = []
steps_of w (c ∷ choices) =
    if runs w.harts c.hart then c ∷ steps_of (step w c) choices else steps_of w choices
