use Rattle.std.proofs.Common.{◌≡◌, ◌<◌, ◌≤◌, ◌+◌, ◌*◌, IfSome}
use Rattle.debug_session.specs.Paged.{paged_world}
use Rattle.debug_session.specs.Session.{session, world_at, reason_at, found_or, last_found}
use Rattle.debug_session.proofs.debugger.Debugger.place_in_block.Given as goal

abbrev pub invariant-steps : goal.invariant-steps
invariant-steps g l = record {
  world : paged_world l.machine ≡ world_at (session l.self) l.position;
  counted : l.place.cost + l.block * 256 ≡ l.position;
  limit : l.position ≤ l.end;
  inside : l.place.position ≤ l.position;
  above : IfSome l.place.reason (λ _. l.block * 256 < l.place.position);
  found : found_or l.place.position l.place.reason (last_found (reason_at (g.W.Wanted.reason l.wanted) (session l.self)) (l.block * 256)) ≡ last_found (reason_at (g.W.Wanted.reason l.wanted) (session l.self)) l.position;
}
