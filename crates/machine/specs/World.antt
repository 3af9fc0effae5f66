-- The state of a machine, its steps and its runs.
use Rattle.std.specs.Prelude.{ℕ, List, [], ◌∷◌, Option, Some, None, slice_get, slice_set}
use Rattle.mem_store.specs.Memory.{Memory}
use Rattle.hart_reservations.specs.Marks.{Marks}
use Rattle.hart_step.specs.Hart.{HartValue}
use Rattle.hart_step.specs.Effect.{Site, site}
use Rattle.hart_step.specs.Step.{stepped}
use Rattle.machine.specs.declared.choice.Choice.{Choice}

-- the harts, the memory that they share, and the word that each has reserved
pub record World : Type 0 where
  pub harts : List HartValue
  pub memory : Memory
  pub reserved : Marks

-- the world after hart h has come to a site
abbrev pub placed : World → ℕ → Site → World
placed w h s = record { harts = slice_set w.harts h s.hart; memory = s.memory; reserved = s.reserved }

-- the step of the chosen hart, if it exists
abbrev pub step_of : World → Choice → Option HartValue → World
step_of w c None = w
step_of w c (Some h) = placed w c.hart (stepped c.hart c.refuse (site h w.memory w.reserved))

-- one event: the chosen hart takes its step
unfoldable pub step : World → Choice → World
step w c = step_of w c (slice_get w.harts c.hart)

-- the events of choices, in order
unfoldable pub run : World → List Choice → World
run w [] = w
run w (c ∷ choices) = run (step w c) choices
