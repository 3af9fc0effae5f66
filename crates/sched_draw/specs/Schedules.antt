-- The choices of a schedule.
use Rattle.std.specs.Prelude.{◌≡◌, ℕ, nat_lt, Bool, true, false, List}
use Rattle.machine.specs.Chosen.{is_chosen}
use Rattle.machine.specs.World.{World, run}
use Rattle.machine.specs.declared.choice.Choice.{Choice}
use Rattle.sched_run.specs.Harts.{Harts}
use Rattle.sched_draw.specs.Bursts.{burst_choices}
use Rattle.sched_draw.specs.ChangePoints.{places_of}
use Rattle.sched_draw.specs.Mixed.{mixed_choices}
use Rattle.sched_draw.specs.Priorities.{priority_choices}
use Rattle.sched_draw.specs.Refusing.{even_choices}
use Rattle.sched_draw.specs.Turns.{alone, turns}
use Rattle.sched_draw.specs.declared.change_points.ChangePoints.{ChangePoints}
use Rattle.sched_draw.specs.declared.order.Order.{Order}
use Rattle.sched_draw.specs.declared.order.Order.TheVariants.{Even, Bursts, Priorities, Mixed}
use Rattle.sched_draw.specs.declared.refusals.Refusals.{Refusals}
use Rattle.sched_draw.specs.declared.schedule.Draw.{Draw}
use Rattle.sched_draw.specs.declared.schedule.Schedule.{Schedule}
use Rattle.sched_draw.specs.declared.schedule.Schedule.TheVariants.{Turns, Only, Seeded}

-- the choices that a seed draws for a run from a world, given the order of the harts, where change
-- points lie and the refusals
abbrev pub ordered_choices : Order → ChangePoints → Refusals → World → ℕ → ℕ → ℕ → List Choice
ordered_choices Even points refusals world harts steps seed = even_choices refusals harts steps seed
ordered_choices (Bursts mean) points refusals world harts steps seed =
    burst_choices refusals harts mean.choices steps seed
ordered_choices (Priorities depth) points refusals world harts steps seed =
    priority_choices world harts depth.number (places_of points steps) refusals steps seed
ordered_choices Mixed points refusals world harts steps seed =
    mixed_choices world harts points refusals steps seed

-- the same, given how the seed draws
unfoldable pub drawn_choices : Draw → World → ℕ → ℕ → ℕ → List Choice
drawn_choices draw world harts steps seed =
    ordered_choices draw.order draw.points draw.refusals world harts steps seed

-- the choices that a schedule gives for a run from a world
abbrev pub choices_of : Schedule → World → ℕ → ℕ → List Choice
choices_of Turns world harts steps = turns harts steps
choices_of (Only hart) world harts steps = alone hart steps
choices_of (Seeded seed draw) world harts steps = drawn_choices draw world harts steps seed

-- whether the choices of an order can depend on the harts' states in a run
abbrev pub follows : Order → Bool
follows Even = false
follows (Bursts mean) = false
follows (Priorities depth) = true
follows Mixed = true

-- whether an order is mixed, so that the seed decides how it draws
abbrev pub is_mixed : Order → Bool
is_mixed Even = false
is_mixed (Bursts mean) = false
is_mixed (Priorities depth) = false
is_mixed Mixed = true

-- whether the choices of a schedule can depend on the run
abbrev pub follows_run : Schedule → Bool
follows_run Turns = false
follows_run (Only hart) = false
follows_run (Seeded seed draw) = follows draw.order

-- whether a schedule is for n harts: there is at least one, and the named one exists
abbrev pub is_of_harts : Schedule → ℕ → Bool
is_of_harts Turns harts = nat_lt 0 harts
is_of_harts (Only hart) harts = nat_lt hart harts
is_of_harts (Seeded seed draw) harts = nat_lt 0 harts

-- the run over a list of choices leads from one world to another, and these are the harts that it
-- chooses
abbrev pub RanOver : List Choice → World → World → Harts → Type 0
RanOver choices old new chosen = (new ≡ run old choices) × ((k : ℕ) → chosen k ≡ is_chosen choices k)
