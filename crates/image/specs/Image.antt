-- An image as contracts see it.
use Rattle.std.specs.Prelude.{◌≡◌, ℕ, ◌%◌, Bool, true, not, ◌&&◌, ◌==◌, nat_lt, List, map, filter, length, Option, Some, None, Result, Ok, Err, IsTrue}
use Rattle.std.specs.Option.{is_none}
use Rattle.std.specs.List.{list_all}
use Rattle.image.specs.Fault.{fault_if, first_fault}
use Rattle.image.specs.Segment.{SegmentValue}
use Rattle.image.specs.Spans.{space_fault}
use Rattle.image.specs.declared.span.Span.{Span}
use Rattle.image.specs.declared.fault.ElfFault.{ElfFault}
use Rattle.image.specs.declared.fault.ElfFault.TheVariants as faults

-- the address of the first instruction, and the segments in order
pub record ImageValue : Type 0 where
  pub entry : ℕ
  pub segments : List SegmentValue

-- the span of a segment, which the checks of places read
abbrev pub span_of : SegmentValue → Span
span_of s = record { base = s.base; size = s.size; file_size = length s.bytes }

-- whether a segment is not empty
abbrev pub is_mapped : SegmentValue → Bool
is_mapped s = nat_lt 0 s.size

-- no segment is empty, the checks of their places pass, and the entry is a multiple of 4
unfoldable pub is_sound : ℕ → List SegmentValue → Bool
is_sound entry segments =
    entry % 4 == 0 && list_all is_mapped segments && is_none (space_fault (map span_of segments))

-- a segment with the low three bits of its rights: the others have no meaning
abbrev pub with_low_rights : SegmentValue → SegmentValue
with_low_rights s = record s { rights = s.rights % 8 }

-- whether a segment's rights are a sum of 1, 2 and 4
abbrev pub has_low_rights : SegmentValue → Bool
has_low_rights s = nat_lt s.rights 8

-- no segment has a bit above the low three in its rights
abbrev pub HaveLowRights : List SegmentValue → Type 0
HaveLowRights segments = list_all has_low_rights segments ≡ true

-- the invariant of an image's entry and segments
abbrev pub IsSound : ℕ → List SegmentValue → Type 0
IsSound entry segments = IsTrue (is_sound entry segments)

-- the first check that an entry and segments fail, empty ones included
unfoldable pub image_fault : ℕ → List SegmentValue → Option ElfFault
image_fault entry segments =
    first_fault (space_fault (map span_of segments)) (
    fault_if (not (entry % 4 == 0)) faults.EntryAlign
    None)

-- the fault, else the image
abbrev pub fault_or : Option ElfFault → ImageValue → Result ImageValue ElfFault
fault_or (Some fault) image = Err fault
fault_or None image = Ok image

-- the first check that an entry and segments fail, else the image of the segments that are not
-- empty, each with the low three bits of its rights
unfoldable pub image_or_fault : ℕ → List SegmentValue → Result ImageValue ElfFault
image_or_fault entry segments =
    fault_or (image_fault entry segments)
    (record { entry = entry; segments = map with_low_rights (filter is_mapped segments) })

-- a fault is the expected answer; any answer may be out of memory instead
abbrev pub Fails : ElfFault → Result ImageValue ElfFault → Type 0
Fails faults.Short expected = expected ≡ Err faults.Short
Fails faults.Magic expected = expected ≡ Err faults.Magic
Fails faults.Class expected = expected ≡ Err faults.Class
Fails faults.Encoding expected = expected ≡ Err faults.Encoding
Fails faults.Version expected = expected ≡ Err faults.Version
Fails faults.FileType expected = expected ≡ Err faults.FileType
Fails faults.Machine expected = expected ≡ Err faults.Machine
Fails faults.Compressed expected = expected ≡ Err faults.Compressed
Fails faults.HeaderSize expected = expected ≡ Err faults.HeaderSize
Fails faults.OutsideFile expected = expected ≡ Err faults.OutsideFile
Fails faults.FileOverMem expected = expected ≡ Err faults.FileOverMem
Fails faults.PastEnd expected = expected ≡ Err faults.PastEnd
Fails faults.Overlap expected = expected ≡ Err faults.Overlap
Fails faults.TooLarge expected = expected ≡ Err faults.TooLarge
Fails faults.Dynamic expected = expected ≡ Err faults.Dynamic
Fails faults.EntryAlign expected = expected ≡ Err faults.EntryAlign
Fails faults.Memory expected = Unit {0}

-- an answer is the expected one, or out of memory
abbrev pub Gives : Result ImageValue ElfFault → Result ImageValue ElfFault → Type 0
Gives (Ok image) expected = expected ≡ Ok image
Gives (Err fault) expected = Fails fault expected
