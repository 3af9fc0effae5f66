-- Schedules by priorities: the harts have a random order, and the first of it that runs is chosen;
-- at change points, and where it spins or pauses, it falls to the end. After Burckhardt, Kothari, Musuvathi and Nagarakatte, "A
-- Randomized Scheduler with Probabilistic Guarantees of Finding Bugs", ASPLOS 2010. A choice is a
-- function of the seed, its step and the run so far, so the schedule belongs to a run.
use Rattle.std.specs.Prelude.{◌≡◌, ℕ, zero, suc, ◌+◌, ◌-◌, ◌%◌, ◌==◌, ◌≢◌, not, ◌||◌, Bool, true, false, List, [], ◌∷◌, ◌++◌, length, filter, insert, if◌then◌else◌, Option, Some, None, slice_get}
use Rattle.std.specs.List.{list_any}
use Rattle.rand_pcg.specs.Lcg.{Lcg}
use Rattle.rand_pcg.specs.Pcg.{pcg32}
use Rattle.mem_store.specs.Memory.{Memory}
use Rattle.hart_step.specs.Hart.{HartValue}
use Rattle.machine.specs.Running.{runs}
use Rattle.machine.specs.World.{World, step}
use Rattle.machine.specs.declared.choice.Choice.{Choice}
use Rattle.sched_draw.specs.Seeds.{generator_of}
use Rattle.sched_draw.specs.Refusing.{is_refused}
use Rattle.sched_draw.specs.Spinning.{WatchValue, spins, pauses, watch_after}
use Rattle.sched_draw.specs.declared.refusals.Refusals.{Refusals}

-- the state of drawing: harts by priority, change points, and the generator of the next words
pub record PriorityDrawing : Type 0 where
  pub order : List ℕ
  pub points : List ℕ
  pub generator : Lcg

-- a hart joins the order at a drawn place: before one of those in it, or after all
unfoldable pub with_priority_hart : ℕ → PriorityDrawing → PriorityDrawing
with_priority_hart hart d = record {
  order = insert d.order ((pcg32 d.generator).0 % (length d.order + 1)) hart;
  points = d.points;
  generator = (pcg32 d.generator).1;
}

-- n harts join, from hart 0 on
unfoldable pub with_harts : ℕ → PriorityDrawing → PriorityDrawing
with_harts zero d = d
with_harts (suc harts) d = with_priority_hart harts (with_harts harts d)

-- a change point is at a word's remainder by the number of places
unfoldable pub with_point : ℕ → PriorityDrawing → PriorityDrawing
with_point places d = record {
  order = d.order;
  points = d.points ++ (pcg32 d.generator).0 % places ∷ [];
  generator = (pcg32 d.generator).1;
}

-- n change points
unfoldable pub with_points : ℕ → ℕ → PriorityDrawing → PriorityDrawing
with_points places zero d = d
with_points places (suc points) d = with_point places (with_points places points d)

-- the state at a seed: the order of the harts is drawn, then `depth - 1` change points
unfoldable pub priority_drawing : ℕ → ℕ → ℕ → ℕ → PriorityDrawing
priority_drawing harts depth places seed =
    with_points places (depth - 1) (with_harts harts (record { order = []; points = []; generator = generator_of seed }))

-- the first hart of an order that runs; hart 0 if none does
abbrev pub first_running : List HartValue → List ℕ → ℕ
first_running harts [] = 0
first_running harts (number ∷ order) = if runs harts number then number else first_running harts order

-- the next choice is of the first hart that runs, and refused if a word is one that refuses
unfoldable pub next_priority_choice : Refusals → List HartValue → PriorityDrawing → Choice
next_priority_choice refusals harts d =
    record { hart = first_running harts d.order; refuse = is_refused refusals (pcg32 d.generator).0 }

-- a hart moved to the end of an order
abbrev pub fallen : ℕ → List ℕ → List ℕ
fallen hart order = filter (λ other. not (other == hart)) order ++ hart ∷ []

-- whether a change point is at a place
abbrev pub is_point : ℕ → List ℕ → Bool
is_point place points = list_any (λ point. point == place) points

-- the order after a choice of a hart
abbrev pub order_after : ℕ → ℕ → PriorityDrawing → List ℕ
order_after place hart d = if is_point place d.points then fallen hart d.order else d.order

-- the state after the choice at a step
unfoldable pub after_priority_choice : ℕ → List HartValue → PriorityDrawing → PriorityDrawing
after_priority_choice place harts d = record {
  order = order_after place (first_running harts d.order) d;
  points = d.points;
  generator = (pcg32 d.generator).1;
}

-- the state of drawing, and the hart that is watched, which was chosen last
pub record WatchedDrawing : Type 0 where
  pub drawing : PriorityDrawing
  pub watch : Option WatchValue

-- whether a hart that is there spins
abbrev pub spins_there : Option WatchValue → ℕ → Option HartValue → Bool
spins_there watch hart None = false
spins_there watch hart (Some now) = spins watch hart now

-- whether a hart that is there pauses
abbrev pub pauses_there : Memory → Option HartValue → Bool
pauses_there memory None = false
pauses_there memory (Some now) = pauses memory now

-- the watch after a choice of a hart, if it is there
abbrev pub watched_there : Option WatchValue → ℕ → Option HartValue → Option WatchValue
watched_there watch hart None = watch
watched_there watch hart (Some now) = Some (watch_after watch hart now)

-- whether a hart that is there waits: it spins or pauses
abbrev pub waits_there : Option WatchValue → Memory → ℕ → Option HartValue → Bool
waits_there watch memory hart there = spins_there watch hart there || pauses_there memory there

-- the state of drawing where a hart falls if it waits
abbrev pub waiting_fallen : Bool → ℕ → PriorityDrawing → PriorityDrawing
waiting_fallen does_wait hart d = record {
  order = if does_wait then fallen hart d.order else d.order;
  points = d.points;
  generator = d.generator;
}

-- the state after the choice of a hart at a step: it falls too if it waits
abbrev pub after_choice_of : ℕ → ℕ → World → WatchedDrawing → WatchedDrawing
after_choice_of hart place world d = record {
  drawing = waiting_fallen (waits_there d.watch world.memory hart (slice_get world.harts hart)) hart (after_priority_choice place world.harts d.drawing);
  watch = watched_there d.watch hart (slice_get world.harts hart);
}

-- the state after the choice at a step in a world
unfoldable pub after_watched_choice : ℕ → World → WatchedDrawing → WatchedDrawing
after_watched_choice place world d = after_choice_of (first_running world.harts d.drawing.order) place world d

-- the next n choices of a run from a world and a step on, each made in the world before it
unfoldable pub priority_choices_drawn : Refusals → ℕ → ℕ → WatchedDrawing → World → List Choice
priority_choices_drawn refusals place zero d world = []
priority_choices_drawn refusals place (suc steps) d world =
    next_priority_choice refusals world.harts d.drawing
    ∷ priority_choices_drawn refusals (place + 1) steps (after_watched_choice place world d) (step world (next_priority_choice refusals world.harts d.drawing))

-- the state at a seed, when no hart is watched yet
abbrev pub watched_drawing : ℕ → ℕ → ℕ → ℕ → WatchedDrawing
watched_drawing harts depth places seed = record { drawing = priority_drawing harts depth places seed; watch = None }

-- the choices of a run of n steps from a world, by the priorities that a seed draws; change points
-- are at so many places
abbrev pub priority_choices : World → ℕ → ℕ → ℕ → Refusals → ℕ → ℕ → List Choice
priority_choices world harts depth places refusals steps seed = priority_choices_drawn refusals 0 steps (watched_drawing harts depth places seed) world

-- in a run from a world each choice is of a hart that runs, as long as one does
abbrev pub NeverWaits : World → List Choice → Type 0
NeverWaits world [] = Unit {0}
NeverWaits world (c ∷ choices) =
    ((k : ℕ) → runs world.harts k ≡ true → runs world.harts c.hart ≡ true) × NeverWaits (step world c) choices

-- in a run from a world the choice after one of a hart that pauses is of another hart, if one runs
abbrev pub GivesWay : World → List Choice → Type 0
GivesWay world [] = Unit {0}
GivesWay world (c ∷ []) = Unit {0}
GivesWay world (c ∷ next ∷ choices) =
    (pauses_there world.memory (slice_get world.harts c.hart) ≡ true
    → (other : ℕ) → runs (step world c).harts other ≡ true → other ≢ c.hart → next.hart ≢ c.hart)
    × GivesWay (step world c) (next ∷ choices)
