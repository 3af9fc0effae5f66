use Rattle.std.proofs.Common.{◌≡◌, ℕ, ◌<◌, ◌≤◌, false, drop}
use Rattle.sched_draw.specs.Priorities.{is_point}
use Rattle.sched_draw.proofs.priorities.Priorities.next_point.Given as goal

-- none of the points so far is before the next one
abbrev pub invariant-points : goal.invariant-points
invariant-points g l = record {
  ahead : l.from ≤ l.next;
  within : l.next ≤ l.to;
  none : (place : ℕ) → l.from ≤ place → place < l.next → is_point place (drop l.point-index l.self.points.items) ≡ false
      → is_point place l.self.points.items ≡ false;
}
