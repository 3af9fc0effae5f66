use Rattle.std.proofs.Common.{◌≡◌, ℕ, ltb, cond, ◌<◌, false, None}
use Rattle.hart_reservations.specs.Marks.{mark_at, mark_after}
use Rattle.hart_reservations.specs.Holders.{may_hold}
use Rattle.hart_reservations.proofs.reserve.end_others.Given as goal

abbrev pub invariant-loop-i : goal.invariant-loop-i
invariant-loop-i l = record {
  ended : (k : ℕ) → mark_at l.words k ≡ cond (ltb k l.i) (mark_after (mark_at l.initial.words) l.hart l.word k) (mark_at l.initial.words k);
  covered : (k : ℕ) → k < l.i → may_hold l.holders k ≡ false → mark_at l.words k ≡ None;
}
