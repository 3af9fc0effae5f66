-- Pages that are being filled.
use Rattle.std.specs.Prelude.{◌≡◌, ℕ, ◌+◌, ◌-◌, ◌*◌, ◌^◌, ◌≤◌, if◌then◌else◌, Some, None, length, vec_len, slice_index}
use Rattle.image.specs.Segment.{SegmentValue}
use Rattle.image.specs.Image.{span_of}
use Rattle.image.specs.Spans.{has_address}
use Rattle.mem_store.specs.Memory.{Memory}
use Rattle.mem_paged.specs.Pages.{spans_of, pages_memory}
use Rattle.mem_paged.specs.declared.building.Building.{Building}

-- the memory of pages while they are filled
abbrev pub built : {Z : Type 0} → Building Z → Memory
built b = pages_memory b.directory (spans_of b.rights.items) b.pages.items

-- each place has an owner, rights and bytes, and the pages are those of 32-bit addresses
pub record IsEven {Z : Type 0} (b : Building Z) : Type 0 where
  pub rights : vec_len b.rights ≡ length b.directory.owners
  pub pages : vec_len b.pages ≡ length b.directory.owners
  pub in_range : b.directory.first + length b.directory.index ≤ 2 ^ 20

-- no byte is mapped
abbrev pub unmapped : Memory
unmapped = record { rights = λ a. None; bytes = λ a. 0 }

-- a segment over a memory
abbrev pub over : SegmentValue → Memory → Memory
over s m = record {
  rights = λ a. if has_address a (span_of s) then Some s.rights else m.rights a;
  bytes = λ a. if has_address a (span_of s) then slice_index s.bytes (a - s.base) else m.bytes a;
}

-- the pages from number `first` to `first + count - 1` contain all addresses of a segment
abbrev pub IsCovered : ℕ → ℕ → SegmentValue → Type 0
IsCovered first count s = (first * 4096 ≤ s.base) × (s.base + s.size ≤ (first + count) * 4096)
