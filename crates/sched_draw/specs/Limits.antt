-- The limits of the parameters of drawn schedules.
use Rattle.std.specs.Prelude.{ℕ}

-- the least chance is one in 2^16: the upper half of a word has as many values
abbrev pub most_one_in : ℕ
most_one_in = 65_536

-- the greatest mean length of bursts, 2^31: the longest burst then has 2^32 - 1 choices
abbrev pub most_mean : ℕ
most_mean = 2_147_483_648

-- the greatest depth of priorities
abbrev pub most_depth : ℕ
most_depth = 1_000

-- the mean length of bursts and the depth of priorities in mixed schedules
abbrev pub mixed_mean : ℕ
mixed_mean = 10

abbrev pub mixed_depth : ℕ
mixed_depth = 20
