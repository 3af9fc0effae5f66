-- Steps from place to place in the tree of schedules.
use Rattle.std.specs.Prelude.{◌≡◌, ℕ, ◌+◌, ◌-◌, Bool, true, false}
use Rattle.std.specs.Prelude.{List, [], ◌∷◌, ◌++◌, Option, Some, None}
use Rattle.std.specs.List.{filter}
use Rattle.mem_store.specs.Memory.{Memory}
use Rattle.machine.specs.World.{step}
use Rattle.sched_draw.specs.Turns.{plain_choice}
use Rattle.campaign_bounded.specs.Bounded.{may_take_over, nexts, preemption}
use Rattle.campaign_bounded.specs.Walk.{Led, Spot, led_of, through}
use Rattle.campaign_bounded.specs.declared.schedule.Schedule.{Schedule}

-- the place after a step of hart g
abbrev pub after_step : Spot → ℕ → Spot
after_step p g = record {
  before = p.before ++ plain_choice g ∷ [];
  world = step p.world (plain_choice g);
  last = Some g;
  harts = p.harts;
  preemptions = p.preemptions - preemption p.world p.last g;
  choices = p.choices - 1;
}

-- a value, if there is one
abbrev pub option_list : {X : Type 0} → Option X → List X
option_list None = []
option_list (Some x) = x ∷ []

-- another hart, if it may take over
abbrev pub takes_over : Spot → ℕ → List ℕ
takes_over p g = filter (may_take_over p.preemptions p.world p.last) (g ∷ [])

-- the harts that may take the next step at a place
abbrev pub nexts_at : Spot → List ℕ
nexts_at p = nexts p.harts p.preemptions p.world p.last

-- a place is left for the next one, and the schedules through both and through all kept ones are
-- the same; or no hart is next, and nothing has changed
abbrev pub Branches : Bool → Spot → Spot → List Led → List Led → Type 0
Branches true p q old new = (through q ++ new ≡ through p ++ old) × (q.choices + 1 ≡ p.choices)
Branches false p q old new = (nexts_at p ≡ []) × (q ≡ p) × (new ≡ old)

-- the first of the schedules that were left is given, or none was left
abbrev pub GivesNext :
    {S Z : Type 0} → (S → Memory) → Option (Schedule S Z) → List Led → List Led → Type 0
GivesNext memory None old new = (old ≡ []) × (new ≡ [])
GivesNext memory (Some schedule) old new = old ≡ led_of memory schedule ∷ new
