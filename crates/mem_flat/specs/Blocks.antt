-- Blocks: segments with all their bytes written out.
use Rattle.std.specs.Prelude.{◌≡◌, ℕ, zero, suc, ◌+◌, ◌-◌, ◌/◌, ◌%◌, ◌^◌, ◌<◌, ◌≤◌, Bool, true, false, if◌then◌else◌, Option, Some, None, List, ◌++◌, length, slice_get, slice_index_or, slice_set, replicate}
use Rattle.std.specs.Option.{ForSome}
use Rattle.image.specs.Segment.{SegmentValue}
use Rattle.mem_store.specs.Memory.{Memory, to_write, granted, number_at}
use Rattle.mem_store.specs.Access.{written}

-- a segment with zeros after its file bytes, up to its size
abbrev pub filled : SegmentValue → SegmentValue
filled s = record {
  base = s.base;
  size = s.size;
  rights = s.rights;
  bytes = s.bytes ++ replicate (s.size - length s.bytes) 0;
}

-- each block ends at or before the base of each later one, within the address space
pub record IsInOrder (bs : List SegmentValue) : Type 0 where
  pub apart : (i j : ℕ) (d : SegmentValue) → i < j → j < length bs
      → (slice_index_or bs i d).base + (slice_index_or bs i d).size ≤ (slice_index_or bs j d).base
  pub in_range : (i : ℕ) (d : SegmentValue) → i < length bs
      → (slice_index_or bs i d).base + (slice_index_or bs i d).size ≤ 2 ^ 32

-- n bytes from an address on are those of a block from an offset on
abbrev pub IsInside : SegmentValue → ℕ → ℕ → ℕ → Type 0
IsInside b address n offset = (b.base + offset ≡ address) × (offset + n ≤ b.size)

-- the n bytes from an address on are in block i from an offset on
abbrev pub StandsAt : List SegmentValue → ℕ → ℕ → ℕ → ℕ → Type 0
StandsAt bs address n i offset =
    (i < length bs) × ForSome (slice_get bs i) (λ b. IsInside b address n offset)

-- a list of bytes in which n from an offset on spell the low digits of a value
abbrev pub spelled : ℕ → List ℕ → ℕ → ℕ → List ℕ
spelled zero bytes offset value = bytes
spelled (suc n) bytes offset value =
    slice_set (spelled n bytes offset value) (offset + n) (value / 256 ^ n % 256)

-- a block after a store of n bytes from an offset on
abbrev pub block_after : ℕ → SegmentValue → ℕ → ℕ → SegmentValue
block_after n b offset value = record {
  base = b.base;
  size = b.size;
  rights = b.rights;
  bytes = spelled n b.bytes offset value;
}

-- the number in n bytes, if each has one of the wanted rights
abbrev pub number_if : ℕ → Memory → ℕ → ℕ → Option ℕ
number_if wanted m n address =
    if granted wanted m n address then Some (number_at m.bytes n address) else None

-- n bytes are stored if each is writable; else memory is unchanged
abbrev pub Puts : ℕ → ℕ → ℕ → Memory → Memory → Bool → Type 0
Puts n address value old new true =
    (granted to_write old n address ≡ true) × (new ≡ written n address value old)
Puts n address value old new false = (granted to_write old n address ≡ false) × (new ≡ old)
