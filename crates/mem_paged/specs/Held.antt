-- The memory of a page store, for crates that need not know of pages.
use Rattle.mem_store.specs.Memory.{Memory}
use Rattle.mem_paged.specs.Store.{memory_of}
use Rattle.mem_paged.specs.declared.page_store.PageStore.{PageStore}

-- the memory of a page store, as a name that does not unfold in proofs above
unfoldable pub held_memory : {Z : Type 0} → PageStore Z → Memory
held_memory s = memory_of s
