-- The world of a machine.
use Rattle.std.specs.Prelude.{map}
use Rattle.mem_store.specs.Memory.{Memory}
use Rattle.hart_reservations.specs.Reserve.{marks}
use Rattle.hart_step.specs.Hart.{hart_of}
use Rattle.machine.specs.World.{World}
use Rattle.machine.specs.declared.machine.Machine.{Machine}

-- the world of a machine; `memory` gives the memory of its store
abbrev pub world : {S Z : Type 0} → (S → Memory) → Machine S Z → World
world memory m = record {
  harts = map hart_of m.harts.items;
  memory = memory m.store;
  reserved = marks m.reserve;
}
