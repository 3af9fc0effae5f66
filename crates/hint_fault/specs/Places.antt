-- Places in a program.
use Rattle.std.specs.Prelude.{ℕ, Bool, List, [], ◌∷◌, Option, Some, None, ◌-◌, ◌&&◌, nat_le, nat_lt, if◌then◌else◌}
use Rattle.image.specs.Segment.{SegmentValue}

-- a segment has an address
abbrev pub segment_has : SegmentValue → ℕ → Bool
segment_has segment address = nat_le segment.base address && nat_lt (address - segment.base) segment.size

-- the first segment that has an address
abbrev pub segment_with : List SegmentValue → ℕ → Option SegmentValue
segment_with [] address = None
segment_with (segment ∷ segments) address = if segment_has segment address then Some segment else segment_with segments address
