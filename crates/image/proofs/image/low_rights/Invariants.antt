use Rattle.std.proofs.Common.{◌≡◌}
use Rattle.image.proofs.RightsLemmas.{lowered}
use Rattle.image.proofs.image.low_rights.Given as goal

abbrev pub invariant-loop-segment : goal.invariant-loop-segment
invariant-loop-segment g l = l.segment-items ≡ lowered l.segment-index l.fn.segments.items
