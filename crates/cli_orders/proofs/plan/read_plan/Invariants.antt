use Rattle.std.proofs.Common.{◌≡◌, ℕ, List, length}
use Rattle.std.specs.List.{slice_split}
use Rattle.cli_args.specs.Inputs.{ends_part}
use Rattle.cli_orders.specs.Plan.{pairs_of, pairs_of_parts, pairs_then, HoldsPairs}
use Rattle.cli_orders.proofs.plan.read_plan.Given as goal

-- the pairs so far, and then those of what is left
abbrev pub invariant-parts : goal.invariant-parts
invariant-parts g l =
    (old : List (ℕ × ℕ)) × (pairs_of l.text ≡ pairs_then old (pairs_of_parts (slice_split ends_part l.rest))) × HoldsPairs l.plan.keys old

abbrev pub decreases-parts : goal.decreases-parts
decreases-parts g l = length l.rest
