-- Pages of 4096 bytes as a memory.
use Rattle.std.specs.Prelude.{ℕ, ◌+◌, ◌/◌, ◌%◌, Bool, ◌&&◌, nat_le, nat_lt, if◌then◌else◌, Option, Some, None, List, [], ◌∷◌, map, slice_get, slice_index}
use Rattle.mem_store.specs.Memory.{Memory}
use Rattle.mem_paged.specs.Directory.{DirectoryValue, page_place}
use Rattle.mem_paged.specs.declared.page.Page.{Page}
use Rattle.mem_paged.specs.declared.page_rights.Span.{Span}
use Rattle.mem_paged.specs.declared.page_rights.PageRights.{PageRights}

-- whether a span contains an offset
abbrev pub has_offset : ℕ → Span → Bool
has_offset offset s = nat_le s.from offset && nat_lt offset s.to

-- whether n is not 0 and a span contains all n bytes from an offset on
abbrev pub has_all : ℕ → ℕ → Span → Bool
has_all offset n s = nat_lt 0 n && nat_le s.from offset && nat_le (offset + n) s.to

-- the rights at an offset, a sum of 1, 2 and 4, if mapped: those of the first span that contains it
abbrev pub right_at : List Span → ℕ → Option ℕ
right_at [] offset = None
right_at (s ∷ ss) offset = if has_offset offset s then Some s.rights.0 else right_at ss offset

-- the same for a page that may not exist
abbrev pub right_in : Option (List Span) → ℕ → Option ℕ
right_in None offset = None
right_in (Some ss) offset = right_at ss offset

-- the spans of each page
abbrev pub spans_of : {Z : Type 0} → List (PageRights Z) → List (List Span)
spans_of {Z} rights = map (λ (r : PageRights Z). r.spans.items) rights

-- a page's byte at an offset, 0 if there is no page
abbrev pub byte_in_page : Option Page → ℕ → ℕ
byte_in_page None offset = 0
byte_in_page (Some p) offset = slice_index p.bytes offset

-- the item at a place, if there is a place
abbrev pub kept_at : {X : Type 0} → List X → Option ℕ → Option X
kept_at xs None = None
kept_at xs (Some k) = slice_get xs k

-- the memory of pages: an address is in page (address / 4096), at offset (address % 4096)
abbrev pub pages_memory : DirectoryValue → List (List Span) → List Page → Memory
pages_memory d rights pages = record {
  rights = λ a. right_in (kept_at rights (page_place d (a / 4096))) (a % 4096);
  bytes = λ a. byte_in_page (kept_at pages (page_place d (a / 4096))) (a % 4096);
}
