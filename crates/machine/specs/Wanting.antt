-- The choices that may allocate memory of the host: only those whose step stores.
use Rattle.std.specs.Prelude.{◌≡◌, ℕ, List, Some, take, slice_get}
use Rattle.hart_step.specs.Hart.{HartValue}
use Rattle.hart_step.specs.Effect.{site}
use Rattle.hart_step.specs.Wanting.{StepStores}
use Rattle.machine.specs.World.{World, run}
use Rattle.machine.specs.declared.choice.Choice.{Choice}

-- the chosen hart exists, and its step stores
pub record ChoiceStores (w : World) (c : Choice) : Type 0 where
  pub hart : HartValue
  pub there : slice_get w.harts c.hart ≡ Some hart
  pub stores : StepStores c.hart c.refuse (site hart w.memory w.reserved)

-- after the first n choices of a list, the next one stores
pub record NextStores (w : World) (choices : List Choice) (n : ℕ) : Type 0 where
  pub choice : Choice
  pub next : slice_get choices n ≡ Some choice
  pub stores : ChoiceStores (run w (take n choices)) choice
