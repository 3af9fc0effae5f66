-- Tables of pages, by chunks of 64.
use Rattle.std.specs.Prelude.{List, map}
use Rattle.std.specs.List.{flat_map}
use Rattle.std.specs.declared.rc.Rc.{Rc}
use Rattle.mem_paged.specs.declared.page.Page.{Page}
use Rattle.mem_paged.specs.declared.chunk.Chunk.{Chunk}

-- the values of shared pointers
abbrev pub shared_values : {X Z : Type 0} → List (Rc X Z) → List X
shared_values {X} {Z} items = map (λ (p : Rc X Z). p.value) items

-- the pages of a chunk
abbrev pub pages_in : {Z : Type 0} → Chunk Z → List Page
pages_in c = shared_values c.pages.items

-- the pages of chunks, in order
unfoldable pub pages_of : {Z : Type 0} → List (Rc (Chunk Z) Z) → List Page
pages_of {Z} chunks = flat_map (λ (c : Chunk Z). pages_in c) (shared_values chunks)
