-- A segment as contracts see it.
use Rattle.std.specs.Prelude.{ℕ, List}

-- first address, size in bytes, rights as a sum of 1, 2 and 4, and the bytes of the file
pub record SegmentValue : Type 0 where
  pub base : ℕ
  pub size : ℕ
  pub rights : ℕ
  pub bytes : List ℕ
