use Rattle.std.proofs.Common.{◌≡◌, ℕ, ltb, cond, length}
use Rattle.hart_reservations.specs.Marks.{mark_at, mark_after}
use Rattle.explore_sites.proofs.marks.end_each.Given as goal

abbrev pub invariant-loop-i : goal.invariant-loop-i
invariant-loop-i l = record {
  ended : (k : ℕ) → mark_at l.marks k ≡ cond (ltb k l.i) (mark_after (mark_at l.initial.marks) l.hart l.word k) (mark_at l.initial.marks k);
  len : length l.marks ≡ length l.initial.marks;
}
