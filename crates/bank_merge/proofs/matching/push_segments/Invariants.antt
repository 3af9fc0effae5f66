use Rattle.std.proofs.Common.{◌≡◌, ◌++◌, drop}
use Rattle.bank_laws.specs.Segments.{accesses}
use Rattle.bank_merge.proofs.matching.push_segments.Given as goal

-- the list so far, and the accesses of the segments that are left
abbrev pub invariant-segments : goal.invariant-segments
invariant-segments g l = l.list.items ++ accesses (drop l.segment-index l.segments) ≡ l.initial.list.items ++ accesses l.segments
