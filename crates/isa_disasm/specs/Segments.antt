-- The listing of an image: for each executable segment a head and its lines.
use Rattle.std.specs.Prelude.{◌≡◌, ◌≤◌, ℕ, ◌+◌, ◌^◌, ◌-◌, ◌%◌, ◌==◌, ◌++◌, Bool, List, ◌∷◌, codes, length, replicate, filter, IsPermutation}
use Rattle.std.specs.Borrow.{Bor}
use Rattle.std.specs.List.{flat_map}
use Rattle.std.specs.List.Sorted.{IsNonDecreasingBy}
use Rattle.std.specs.Fmt.{decimal}
use Rattle.image.specs.Segment.{SegmentValue}
use Rattle.isa_names.specs.Digits.{word_text}
use Rattle.isa_disasm.specs.Listing.{lines_from}

-- the right to execute is the lowest bit
abbrev pub is_executable : SegmentValue → Bool
is_executable s = s.rights % 2 == 1

-- the bytes of a segment: those of the file, then zeros up to its size
abbrev pub contents_of : SegmentValue → List ℕ
contents_of s = s.bytes ++ replicate (s.size - length s.bytes) 0

-- a segment ends within the address space, and its bytes of the file are at most its size
pub record HasRoom (s : SegmentValue) : Type 0 where
  pub end : s.base + s.size ≤ 2 ^ 32
  pub held : length s.bytes ≤ s.size

-- the value that a reference refers to
abbrev pub now_of : Bor SegmentValue → SegmentValue
now_of r = r.now

-- a segment's head, with its base and its size, and then its lines
unfoldable pub segment_text : SegmentValue → List ℕ
segment_text s =
    codes "# segment " ++ (word_text s.base ++ (codes " " ++ (decimal s.size ++ (10 ∷ lines_from s.base (contents_of s)))))

-- the text is that of the executable segments, by rising base
pub record ListsSegments (segments : List SegmentValue) (text : List ℕ) : Type 0 where
  pub order : List SegmentValue
  pub all : IsPermutation (filter is_executable segments) order
  pub rising : IsNonDecreasingBy (λ (s : SegmentValue). s.base) order
  pub lines : text ≡ flat_map segment_text order
