use Rattle.std.proofs.Common.{◌≡◌, length}
use Rattle.std.specs.List.{slice_split}
use Rattle.cli_args.specs.Inputs.{ends_part, inputs_of, inputs_of_parts, inputs_then}
use Rattle.cli_args.proofs.inputs.read_inputs.Given as goal

abbrev pub invariant-parts : goal.invariant-parts
invariant-parts g l =
    inputs_of l.text ≡ inputs_then l.inputs.items (inputs_of_parts (slice_split ends_part l.rest))

abbrev pub decreases-parts : goal.decreases-parts
decreases-parts g l = length l.rest
