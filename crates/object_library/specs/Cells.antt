-- The comparison of an image with an object's. `Images` has the property that it decides.
use Rattle.std.specs.Prelude.{◌≡◌, ℕ, ◌+◌, ◌-◌, ◌*◌, ◌/◌, ◌%◌, ◌^◌, ◌<◌, ◌≤◌, Bool, true, ◌&&◌, nat_le, nat_lt, if◌then◌else◌, List, length, Option, Some, None, slice_index, slice_index_or}
use Rattle.std.specs.List.{list_any}
use Rattle.image.specs.Image.{ImageValue, span_of}
use Rattle.image.specs.Segment.{SegmentValue}
use Rattle.image.specs.Spans.{has_address}
use Rattle.object_library.specs.Images.{cell}

-- the byte and the rights at an address of an object with these words and this many zeros
abbrev pub known : List ℕ → ℕ → ℕ → Option (ℕ × ℕ)
known words zeros a =
    if nat_le 0x00010000 a && nat_lt a (0x00010000 + 4 * length words)
    then Some (slice_index words ((a - 0x00010000) / 4) / 256 ^ (a % 4) % 256, 5)
    else if nat_le 0x00011000 a && nat_lt a (0x00011000 + zeros) then Some (0, 6)
    else None

-- two maps agree at this many addresses from a base on
abbrev pub AgreeOn : (ℕ → Option (ℕ × ℕ)) → (ℕ → Option (ℕ × ℕ)) → ℕ → ℕ → Type 0
AgreeOn f g base size = (a : ℕ) → base ≤ a → a < base + size → f a ≡ g a

-- whether an address is in some segment
abbrev pub is_covered : List SegmentValue → ℕ → Bool
is_covered segments a = list_any (λ s. has_address a (span_of s)) segments

-- two maps agree at each address of these segments
abbrev pub AgreeWhereCovered : (ℕ → Option (ℕ × ℕ)) → (ℕ → Option (ℕ × ℕ)) → List SegmentValue → Type 0
AgreeWhereCovered f g segments = (a : ℕ) → is_covered segments a ≡ true → f a ≡ g a

-- two maps are not the same
abbrev pub Differ : (ℕ → Option (ℕ × ℕ)) → (ℕ → Option (ℕ × ℕ)) → Type 0
Differ f g = ((a : ℕ) → f a ≡ g a) → ⊥

-- an image has the entry and the map of an object with these words and this many zeros
abbrev pub Matches : ImageValue → List ℕ → ℕ → Type 0
Matches m words zeros = (m.entry ≡ 0x00010000) × ((a : ℕ) → cell m.segments a ≡ known words zeros a)

-- no segment ends past the last address
abbrev pub EndInRange : List SegmentValue → Type 0
EndInRange segments =
    (i : ℕ) (s : SegmentValue) → i < length segments → s ≡ slice_index_or segments i s → s.base + s.size ≤ 2 ^ 32
