use Rattle.std.proofs.Common.{◌≡◌, ◌+◌, ◌-◌, ◌≤◌, ◌++◌, length, drop}
use Rattle.bank_order.specs.Logs.{borrowed_segments}
use Rattle.bank_order.specs.Weaving.{woven}
use Rattle.bank_order.proofs.weaving.weave.Given as goal

-- what is woven so far, and what is left of both
abbrev pub invariant-segments : goal.invariant-segments
invariant-segments g l = (l.i ≤ length l.first) × (l.j ≤ length l.second)
    × (borrowed_segments l.out.items ++ woven (drop l.i (borrowed_segments l.first)) (drop l.j (borrowed_segments l.second)) ≡ woven (borrowed_segments l.first) (borrowed_segments l.second))

abbrev pub decreases-segments : goal.decreases-segments
decreases-segments g l = (length l.first - l.i) + (length l.second - l.j)
