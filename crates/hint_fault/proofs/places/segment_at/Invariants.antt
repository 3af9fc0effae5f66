use Rattle.std.proofs.Common.{◌≡◌, drop}
use Rattle.hint_fault.specs.Places.{segment_with}
use Rattle.hint_fault.proofs.places.segment_at.Given as goal

-- no segment before has the address
abbrev pub invariant-segments : goal.invariant-segments
invariant-segments g l = segment_with (drop l.segment-index l.segments) l.address ≡ segment_with l.segments l.address
