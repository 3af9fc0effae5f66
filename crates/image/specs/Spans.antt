-- The places of segments.
use Rattle.std.specs.Prelude.{ℕ, ◌+◌, ◌^◌, ◌≤◌, Bool, true, false, ◌&&◌, ◌||◌, nat_lt, nat_le, List, [], ◌∷◌, Option, None, sum_by, filter, length}
use Rattle.std.specs.List.{list_any}
use Rattle.image.specs.Fault.{fault_if}
use Rattle.image.specs.declared.fault.ElfFault.{ElfFault}
use Rattle.image.specs.declared.fault.ElfFault.TheVariants as faults
use Rattle.image.specs.declared.span.Span.{Span}

-- the limit of an image: the largest sum of its segments' sizes, 2^24
abbrev pub image_limit : ℕ
image_limit = 0x0100_0000

-- whether an address is in a segment
abbrev pub has_address : ℕ → Span → Bool
has_address x s = nat_le s.base x && nat_lt x (s.base + s.size)

-- some address is in two of the segments
abbrev pub Shares : List Span → Type 0
Shares spans = (x : ℕ) × (2 ≤ length (filter (has_address x) spans))

-- whether a segment is not empty
abbrev pub is_filled : Span → Bool
is_filled s = nat_lt 0 s.size

-- whether two segments share an address
abbrev pub overlaps : Span → Span → Bool
overlaps s t =
    is_filled s && is_filled t && nat_lt s.base (t.base + t.size) && nat_lt t.base (s.base + s.size)

-- whether two of the segments share an address, by pairs
abbrev pub any_overlap : List Span → Bool
any_overlap [] = false
any_overlap (s ∷ ss) = list_any (overlaps s) ss || any_overlap ss

-- whether a segment has more file bytes than its size
abbrev pub is_over_mem : Span → Bool
is_over_mem s = nat_lt s.size s.file_size

-- whether a segment ends past the last address
abbrev pub is_past_end : Span → Bool
is_past_end s = nat_lt (2 ^ 32) (s.base + s.size)

-- the first check of the segments' places that fails
unfoldable pub space_fault : List Span → Option ElfFault
space_fault ss =
    fault_if (list_any is_over_mem ss) faults.FileOverMem (
    fault_if (list_any is_past_end ss) faults.PastEnd (
    fault_if (any_overlap ss) faults.Overlap (
    fault_if (nat_lt image_limit (sum_by (λ s. s.size) ss)) faults.TooLarge
    None)))

-- whether each segment begins at or after the end of the previous one, the first at or after `end`
abbrev pub stands_in_row : ℕ → List Span → Bool
stands_in_row end [] = true
stands_in_row end (s ∷ ss) = nat_le end s.base && stands_in_row (s.base + s.size) ss
