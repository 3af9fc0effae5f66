use Rattle.std.proofs.Common.{◌≡◌, ◌+◌, ◌-◌}
use Rattle.debug_session.specs.Paged.{paged_world}
use Rattle.debug_session.specs.Session.{session, world_at, reason_at, first_found, first_of}
use Rattle.debug_session.proofs.debugger.Debugger.first_behind.Given as goal

abbrev pub invariant-steps : goal.invariant-steps
invariant-steps g l = record {
  world : paged_world l.machine ≡ world_at (session l.self) l.position;
  counted : l.cost + l.from ≡ l.position;
  left : first_found (reason_at (g.W.Wanted.reason l.wanted) (session l.self)) l.position (l.length - l.position) ≡ first_of (g.W.Wanted.reason l.wanted) (session l.self) l.from;
}
