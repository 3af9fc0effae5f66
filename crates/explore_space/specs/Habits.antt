-- What harts take at once: local steps, steps on words of their own, and loads of words that can't be
-- written, but none in a section.
use Rattle.std.specs.Prelude.{ℕ, zero, suc, ◌+◌, Bool, false, not, ◌&&◌, ◌==◌, if◌then◌else◌, List, [], ◌∷◌, Option, Some, None, slice_get}
use Rattle.std.specs.Option.{is_some}
use Rattle.mem_store.specs.Memory.{Memory}
use Rattle.hart_step.specs.Hart.{HartValue}
use Rattle.hart_local.specs.LocalRuns.{plain_choices}
use Rattle.machine.specs.World.{World, step, run}
use Rattle.explore_laws.specs.Bounds.{not_stopped}
use Rattle.explore_laws.specs.Quiet.{OfNextStep}
use Rattle.explore_laws.specs.Settling.{Stride}
use Rattle.explore_sites.specs.Own.{Owners, clear_in, is_alone, touch_ahead, unrefused}
use Rattle.explore_space.specs.Resting.{resting_steps, rests_in}
use Rattle.explore_space.specs.declared.own_words.OwnWord.{OwnWord}
use Rattle.explore_space.specs.declared.section.Section.{Section}
use Rattle.explore_space.specs.declared.settling.LocalCode.{LocalCode}

-- the section in which no step is taken at once, if there is one, and which words are whose
pub record Habits : Type 0 where
  pub section : Option Section
  pub owners : Owners

-- the same from its parts
abbrev pub habits_with : Option Section → Owners → Habits
habits_with section owners = record { section = section; owners = owners }

-- whose a word is by a list, in which its first entry counts
abbrev pub owners_in : List OwnWord → Owners
owners_in [] x = None
owners_in (own ∷ words) x = if own.word == x then Some own.hart else owners_in words x

-- what harts take at once over this code
abbrev pub habits_of : {Z : Type 0} → LocalCode Z → Habits
habits_of code = habits_with code.section (owners_in code.words.items)

-- whether a hart runs, doesn't stand in the section, and no other hart sees its next step
abbrev pub takes_quiet_step : Habits → Memory → ℕ → HartValue → Bool
takes_quiet_step habits m h v = (not_stopped v.state && not (rests_in habits.section v)) && is_alone habits.owners m h v

abbrev pub takes_quiet_by : Habits → World → ℕ → Option HartValue → Bool
takes_quiet_by habits w h None = false
takes_quiet_by habits w h (Some v) = takes_quiet_step habits w.memory h v

-- the same of the hart at a number in a world
abbrev pub quiet_by_habit : Habits → OfNextStep
quiet_by_habit habits w h = takes_quiet_by habits w h (slice_get w.harts h)

-- whether the next step of a hart is clear of other harts' words
abbrev pub clear_by_habit : Habits → OfNextStep
clear_by_habit habits w h = clear_in habits.owners w h

-- no word belongs to a hart
abbrev pub nobodys : Owners
nobodys x = None

-- whether a quiet step touches a word: one of its hart's own, or one that can't be written
abbrev pub takes_own_by : Habits → World → ℕ → Option HartValue → Bool
takes_own_by habits w h None = false
takes_own_by habits w h (Some v) = takes_quiet_step habits w.memory h v && is_some (touch_ahead w.memory v)

abbrev pub takes_own_step : Habits → OfNextStep
takes_own_step habits w h = takes_own_by habits w h (slice_get w.harts h)

-- the local steps that hart h takes at once in a world
abbrev pub local_stride : Habits → Stride
local_stride habits w h = resting_steps habits.section w (slice_get w.harts h)

-- the world where it has taken them
abbrev pub world_rested : Habits → World → ℕ → World
world_rested habits w h = run w (plain_choices h (local_stride habits w h))

-- as long as the hart's next step touches a word so, at most n times, that step and the local steps
-- behind it
unfoldable pub own_stride : Habits → ℕ → Stride
own_stride habits zero w h = 0
own_stride habits (suc n) w h =
    if takes_own_step habits w h
    then suc (local_stride habits (step w (unrefused h)) h
    + own_stride habits n (world_rested habits (step w (unrefused h)) h) h)
    else 0

-- how many steps that touch words a hart takes at once at most
abbrev pub own_at_once : ℕ
own_at_once = 64

-- the steps that a hart takes at once: its local ones, and then these
abbrev pub stride_by_habit : Habits → Stride
stride_by_habit habits w h = local_stride habits w h + own_stride habits own_at_once (world_rested habits w h) h
