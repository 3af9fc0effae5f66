use Rattle.std.proofs.Common.{◌≡◌, ◌-◌, ◌++◌, length, drop}
use Rattle.bank_order.proofs.weaving.push_from.Given as goal

-- what is there, and what is left
abbrev pub invariant-segments : goal.invariant-segments
invariant-segments g l = l.out.items ++ drop l.i l.segments ≡ l.initial.out.items ++ drop l.initial.i l.segments

abbrev pub decreases-segments : goal.decreases-segments
decreases-segments g l = length l.segments - l.i
