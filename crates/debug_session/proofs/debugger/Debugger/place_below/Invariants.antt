use Rattle.std.proofs.Common.{◌≡◌, ◌≤◌, ◌+◌, ◌-◌}
use Rattle.debug_session.specs.Session.{session, length_of, reason_at, last_found, last_of}
use Rattle.debug_session.proofs.debugger.Debugger.place_below.Given as goal

abbrev pub invariant-pieces : goal.invariant-pieces
invariant-pieces g l = record {
  inside : l.end ≤ length_of (session l.self);
  counted : l.cost + l.end ≡ l.below;
  left : last_found (reason_at (g.W.Wanted.reason l.wanted) (session l.self)) l.end ≡ last_of (g.W.Wanted.reason l.wanted) (session l.self) l.below;
}

abbrev pub decreases-pieces : goal.decreases-pieces
decreases-pieces g l = l.end
