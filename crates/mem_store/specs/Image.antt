-- The initial memory of a program.
use Rattle.std.specs.Prelude.{ℕ, ◌-◌, List, [], ◌∷◌, Option, Some, None, slice_index, if◌then◌else◌}
use Rattle.image.specs.Image.{ImageValue, span_of}
use Rattle.image.specs.Segment.{SegmentValue}
use Rattle.image.specs.Spans.{has_address}
use Rattle.mem_store.specs.Memory.{Memory}

-- the first segment that contains an address
abbrev pub segment_at : List SegmentValue → ℕ → Option SegmentValue
segment_at [] a = None
segment_at (s ∷ ss) a = if has_address a (span_of s) then Some s else segment_at ss a

-- the rights of a segment's addresses
abbrev pub rights_in : Option SegmentValue → Option ℕ
rights_in None = None
rights_in (Some s) = Some s.rights

-- a segment's byte at an address: 0 past its file bytes, and if there is no segment
abbrev pub byte_in : Option SegmentValue → ℕ → ℕ
byte_in None a = 0
byte_in (Some s) a = slice_index s.bytes (a - s.base)

-- the memory of segments
unfoldable pub segments_memory : List SegmentValue → Memory
segments_memory ss = record {
  rights = λ a. rights_in (segment_at ss a);
  bytes = λ a. byte_in (segment_at ss a) a;
}

-- the memory of an image
abbrev pub image_memory : ImageValue → Memory
image_memory image = segments_memory image.segments
