-- The memory of a page store.
use Rattle.mem_store.specs.Memory.{Memory}
use Rattle.mem_paged.specs.Pages.{spans_of, pages_memory}
use Rattle.mem_paged.specs.Table.{pages_of}
use Rattle.mem_paged.specs.declared.page_store.PageStore.{PageStore}

-- the memory of a page store
abbrev pub memory_of : {Z : Type 0} → PageStore Z → Memory
memory_of s = pages_memory s.layout.value.directory (spans_of s.layout.value.rights.items) (pages_of s.table.chunks.items)
