-- The number of harts.
use Rattle.std.specs.Prelude.{ℕ}

-- the largest number of harts in a machine, and of slots in an object for any number of them
abbrev pub most_harts : ℕ
most_harts = 32
