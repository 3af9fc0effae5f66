use Rattle.std.proofs.Common.{◌≡◌, drop, None}
use Rattle.bank_order.specs.Rising.{rises_above}
use Rattle.bank_order.proofs.rising.rises.Given as goal

-- what the segments that are left give is what all give
abbrev pub invariant-segments : goal.invariant-segments
invariant-segments l = rises_above l.last (drop l.segment-index l.log) ≡ rises_above None l.log
