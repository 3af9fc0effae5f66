-- The numbers of campaigns.
use Rattle.std.specs.Prelude.{ℕ, ◌+◌, ◌^◌, nat_le, List, Option, Some, None, if◌then◌else◌}
use Rattle.cli_values.specs.declared.campaign.SeedNumbers.{SeedNumbers}
use Rattle.cli_args.specs.Numbers.{number_below}

-- these numbers, if the seeds end by 2 ^ 64
abbrev pub numbers_within : Option ℕ → Option ℕ → Option ℕ → Option SeedNumbers
numbers_within None count steps = None
numbers_within (Some first) None steps = None
numbers_within (Some first) (Some count) None = None
numbers_within (Some first) (Some count) (Some steps) =
    if nat_le (first + count) (2 ^ 64)
    then Some (record { first = first; count = count; steps = steps })
    else None

-- the numbers of three texts: the first seed, the number of seeds, and of steps below 2 ^ 32
abbrev pub numbers_of : List ℕ → List ℕ → List ℕ → Option SeedNumbers
numbers_of first count steps =
    numbers_within (number_below (2 ^ 64) first) (number_below (2 ^ 64) count) (number_below (2 ^ 32) steps)
