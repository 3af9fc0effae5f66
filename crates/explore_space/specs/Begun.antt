-- The start of turns: each hart has taken the first local steps.
use Rattle.std.specs.Prelude.{ℕ, zero, suc, Bool, true, false, not, ◌&&◌, if◌then◌else◌, List, [], ◌++◌, length, slice_get, Option, Some, None}
use Rattle.hart_step.specs.Hart.{HartValue}
use Rattle.hart_local.specs.LocalRuns.{plain_choices}
use Rattle.machine.specs.Chosen.{is_chosen}
use Rattle.machine.specs.World.{World}
use Rattle.machine.specs.declared.choice.Choice.{Choice}
use Rattle.explore_laws.specs.Bounds.{not_stopped}
use Rattle.explore_laws.specs.Places.{Place, place_begun}
use Rattle.explore_laws.specs.Settling.{world_settled, turns_choices}
use Rattle.explore_space.specs.Habits.{Habits, stride_by_habit}
use Rattle.explore_space.specs.Resting.{rests_in, stride_of}
use Rattle.explore_space.specs.declared.section.Section.{Section}

-- whether a hart runs and doesn't stand in a section
abbrev pub runs_outside : Option Section → HartValue → Bool
runs_outside section v = not_stopped v.state && not (rests_in section v)

abbrev pub runs_outside_there : Option Section → Option HartValue → Bool
runs_outside_there section None = false
runs_outside_there section (Some v) = runs_outside section v

-- the world where hart h has taken its local steps
abbrev pub hart_settled : Option Section → World → ℕ → World
hart_settled section w h = world_settled (stride_of section) w h

-- whether hart h still runs behind them, and doesn't stand in the section there; one that stops or
-- comes there takes them in its first turn
abbrev pub runs_settled : Option Section → World → ℕ → Bool
runs_settled section w h = runs_outside_there section (slice_get (hart_settled section w h).harts h)

-- the place where it has taken them
abbrev pub place_rested : Option Section → Place → ℕ → Place
place_rested section p h = record { stride = p.stride; world = hart_settled section p.world h; chosen = p.chosen }

-- hart h has taken them if it still runs behind them, outside of the section
abbrev pub hart_begun : Option Section → World → ℕ → World
hart_begun section w h = if runs_settled section w h then hart_settled section w h else w

-- the same of a place
abbrev pub place_hart_begun : Option Section → Place → ℕ → Place
place_hart_begun section p h = record { stride = p.stride; world = hart_begun section p.world h; chosen = p.chosen }

-- how many steps these are
abbrev pub first_steps : Option Section → World → ℕ → ℕ
first_steps section w h = if runs_settled section w h then stride_of section w h else 0

-- so it is with each of the first n harts that is asked for
unfoldable pub world_begun : Option Section → World → (ℕ → Bool) → ℕ → World
world_begun section w asked zero = w
world_begun section w asked (suc n) =
    if asked n then hart_begun section (world_begun section w asked n) n else world_begun section w asked n

-- the choices of these steps
unfoldable pub begun_choices : Option Section → World → (ℕ → Bool) → ℕ → List Choice
begun_choices section w asked zero = []
begun_choices section w asked (suc n) = begun_choices section w asked n
    ++ (if asked n then plain_choices n (first_steps section (world_begun section w asked n) n) else [])

-- the world in which turns start: so it is with all harts
abbrev pub settled_start : Option Section → World → World
settled_start section w = world_begun section w (λ h. true) (length w.harts)

-- the place where turns start
abbrev pub turns_start : Habits → World → Place
turns_start habits w = place_begun (stride_by_habit habits) (settled_start habits.section w)

-- the choices of turns from there: first those local steps of the harts that they choose, and none
-- of the others
abbrev pub choices_from_start : Habits → World → List Choice → List Choice
choices_from_start habits w turns = begun_choices habits.section w (is_chosen turns) (length w.harts)
    ++ turns_choices (stride_by_habit habits) (world_begun habits.section w (is_chosen turns) (length w.harts)) turns
