use Rattle.std.proofs.Common.{◌≡◌, ◌++◌, drop}
use Rattle.bank_order.specs.Logs.{borrowed_segments}
use Rattle.bank_order.proofs.weaving.references.Given as goal

-- those so far, and the segments that are left
abbrev pub invariant-segments : goal.invariant-segments
invariant-segments g l = borrowed_segments l.out.items ++ drop l.segment-index l.log ≡ l.log
