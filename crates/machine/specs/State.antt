-- The world of a machine over a flat store, and the worlds of a run.
use Rattle.std.specs.Prelude.{ℕ, List, take}
use Rattle.image.specs.Image.{ImageValue}
use Rattle.image.specs.Segment.{SegmentValue}
use Rattle.mem_store.specs.Image.{segments_memory}
use Rattle.machine.specs.Machine.{world}
use Rattle.machine.specs.World.{World, run}
use Rattle.machine.specs.Start.{started}
use Rattle.machine.specs.declared.machine.Machine.{Machine}
use Rattle.machine.specs.declared.choice.Choice.{Choice}

-- the world of a machine
abbrev pub state : {Z : Type 0} → Machine (List SegmentValue) Z → World
state m = world segments_memory m

-- the world after the first k choices
abbrev pub reached : ImageValue → List ℕ → List Choice → ℕ → World
reached image inputs choices k = run (started image inputs) (take k choices)
