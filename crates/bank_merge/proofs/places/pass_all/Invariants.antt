use Rattle.std.proofs.Common.{drop}
use Rattle.bank_laws.specs.Segments.{accesses}
use Rattle.bank_merge.specs.AccessOrder.{bank_logs}
use Rattle.bank_merge.proofs.PlaceLemmas.{Goes}
use Rattle.bank_merge.proofs.places.pass_all.Given as goal

-- all are the next exactly where those that are left are
abbrev pub invariant-segments : goal.invariant-segments
invariant-segments g l = Goes (bank_logs l.banks) l.hart l.initial.places l.places (accesses l.segments) (accesses (drop l.segment-index l.segments))
