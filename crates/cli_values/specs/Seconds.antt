-- How many seconds a campaign may take.
use Rattle.std.specs.Prelude.{ℕ, ◌^◌, List, Option, option_and_then}
use Rattle.cli_args.specs.Numbers.{if_nonzero, number_below}

-- the seconds that a text says: 1 to 2^32 - 1
abbrev pub seconds_of : List ℕ → Option ℕ
seconds_of text = option_and_then if_nonzero (number_below (2 ^ 32) text)
