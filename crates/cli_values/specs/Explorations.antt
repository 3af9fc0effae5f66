-- How many worlds an exploration may look at.
use Rattle.std.specs.Prelude.{ℕ, ◌^◌, List, Option, Some, None, option_and_then}
use Rattle.std.specs.Borrow.{Bor}
use Rattle.cli_args.specs.Numbers.{if_nonzero, number_below}

-- the most worlds that are looked at: 1 to 2 ^ 32 - 1, and a million by default
abbrev pub worlds_of : Option (Bor (List ℕ)) → Option ℕ
worlds_of None = Some 1000000
worlds_of (Some text) = option_and_then if_nonzero (number_below (2 ^ 32) text.now)
