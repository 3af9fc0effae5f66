-- Every schedule with a bounded number of preemptions.
use Rattle.std.specs.Prelude.{ℕ, zero, suc, ◌-◌, ◌==◌, ◌&&◌, ◌||◌, nat_lt, not, Bool, false}
use Rattle.std.specs.Prelude.{List, [], ◌∷◌, ◌++◌, Option, Some, None, map, if◌then◌else◌}
use Rattle.std.specs.List.{filter, flat_map, range_with_len}
use Rattle.machine.specs.Running.{runs}
use Rattle.machine.specs.World.{World, step}
use Rattle.machine.specs.declared.choice.Choice.{Choice}
use Rattle.sched_draw.specs.Turns.{plain_choice}

-- whether the hart that took the last step can go on
abbrev pub can_go_on : World → Option ℕ → Bool
can_go_on w None = false
can_go_on w (Some last) = runs w.harts last

-- whether hart g took the last step
abbrev pub is_last : Option ℕ → ℕ → Bool
is_last None g = false
is_last (Some last) g = last == g

-- 1 if a step of hart g is a preemption: another hart took the last step and can go on
abbrev pub preemption : World → Option ℕ → ℕ → ℕ
preemption w last g = if can_go_on w last && not (is_last last g) then 1 else 0

-- whether another hart g may take over, with k preemptions left
abbrev pub may_take_over : ℕ → World → Option ℕ → ℕ → Bool
may_take_over k w last g =
    runs w.harts g && (not (is_last last g) && (nat_lt 0 k || not (can_go_on w last)))

-- the other harts that may take over, of so many, in order
abbrev pub others : ℕ → ℕ → World → Option ℕ → List ℕ
others harts k w last = filter (may_take_over k w last) (range_with_len 0 harts)

-- the hart that took the last step, if it can go on
abbrev pub itself : World → Option ℕ → List ℕ
itself w None = []
itself w (Some last) = if runs w.harts last then last ∷ [] else []

-- the harts that may take the next step, those first that take over
abbrev pub nexts : ℕ → ℕ → World → Option ℕ → List ℕ
nexts harts k w last = others harts k w last ++ itself w last

-- lists with a plain choice of hart g before them
abbrev pub from_hart : ℕ → List (List Choice) → List (List Choice)
from_hart g lists = map (λ list. plain_choice g ∷ list) lists

-- the lists that begin with the steps of harts; the empty one where no hart is next
abbrev pub from_each : (ℕ → List (List Choice)) → List ℕ → List (List Choice)
from_each lists [] = [] ∷ []
from_each lists (g ∷ more) = flat_map (λ h. from_hart h (lists h)) (g ∷ more)

-- every schedule of so many harts that has at most m choices and at most k preemptions, from a
-- world on, after a step of the last hart
unfoldable pub bounded : ℕ → ℕ → ℕ → World → Option ℕ → List (List Choice)
bounded harts zero k w last = [] ∷ []
bounded harts (suc m) k w last =
    from_each (λ g. bounded harts m (k - preemption w last g) (step w (plain_choice g)) (Some g))
    (nexts harts k w last)

-- those of a run from its first world on
abbrev pub schedules : ℕ → ℕ → ℕ → World → List (List Choice)
schedules harts most k start = bounded harts most k start None
