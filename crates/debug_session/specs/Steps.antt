-- The steps of a run, in order.
use Rattle.std.specs.Prelude.{ℕ, ◌+◌, ◌-◌, Option, Some, None, List, [], ◌∷◌, ◌++◌, take, drop, slice_get}
use Rattle.mem_store.specs.Memory.{Memory}
use Rattle.mem_store.specs.Access.{fetched}
use Rattle.hart_step.specs.Hart.{HartValue}
use Rattle.hart_step.specs.declared.hart.HartState.{HartState}
use Rattle.hart_step.specs.declared.hart.HartState.TheVariants.{Running, Exited, Faulted}
use Rattle.machine.specs.World.{World, step}
use Rattle.machine.specs.declared.choice.Choice.{Choice}
use Rattle.debug_session.specs.Session.{Session, world_at}
use Rattle.debug_session.specs.declared.step_view.Event.{Event}
use Rattle.debug_session.specs.declared.step_view.Event.TheVariants.{Stopped, NoFetch, Word}
use Rattle.debug_session.specs.declared.step_view.StepView.{StepView}

-- the event of a fetch
abbrev pub event_at : Option ℕ → Event
event_at None = NoFetch
event_at (Some word) = Word word

-- the event of a hart in this state, in a memory at an address
abbrev pub event_of : HartState → Memory → ℕ → Event
event_of Running m pc = event_at (fetched m pc)
event_of (Exited status) m pc = Stopped
event_of (Faulted cause) m pc = Stopped

-- the step of choice i in a memory, if its hart exists
abbrev pub view_of : ℕ → Choice → Memory → Option HartValue → List StepView
view_of i c m None = []
view_of i c m (Some h) =
    record { index = i; choice = c; pc = h.pc; event = event_of h.state m h.pc } ∷ []

-- the steps of choices, numbered from i on, each in its own world
unfoldable pub steps_from : World → ℕ → List Choice → List StepView
steps_from w i [] = []
steps_from w i (c ∷ choices) =
    view_of i c w.memory (slice_get w.harts c.hart) ++ steps_from (step w c) (i + 1) choices

-- the steps of the choices from index a to b - 1
abbrev pub shown_steps : Session → ℕ → ℕ → List StepView
shown_steps s a b = steps_from (world_at s a) a (take (b - a) (drop a s.choices))
