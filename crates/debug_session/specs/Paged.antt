-- The world of a machine over pages.
use Rattle.mem_paged.specs.Held.{held_memory}
use Rattle.mem_paged.specs.declared.page_store.PageStore.{PageStore}
use Rattle.machine.specs.Machine.{world}
use Rattle.machine.specs.World.{World}
use Rattle.machine.specs.declared.machine.Machine.{Machine}

-- the world of a machine whose memory is made of pages
abbrev pub paged_world : {Z : Type 0} → Machine (PageStore Z) Z → World
paged_world m = world held_memory m
