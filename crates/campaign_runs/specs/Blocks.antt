-- The size of the blocks of a campaign's seeds.
use Rattle.std.specs.Prelude.{ℕ, ◌/◌, ◌^◌, max, min}

-- the number of seeds of a block: about 2^26 steps together, at least 64 and at most 4096 seeds
abbrev pub block_seeds : ℕ → ℕ
block_seeds steps = max 64 (min (2 ^ 26 / max steps 1) 4096)
