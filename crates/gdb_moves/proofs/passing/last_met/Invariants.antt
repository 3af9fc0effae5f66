use Rattle.std.proofs.Common.{◌≤◌}
use Rattle.debug_session.specs.Session.{session, length_of, reason_at}
use Rattle.gdb_moves.specs.After.{reason_unless}
use Rattle.gdb_moves.specs.Points.{marked}
use Rattle.gdb_moves.specs.Reasons.{wanted_stop}
use Rattle.gdb_moves.proofs.AfterLemmas.{NoneIn}
use Rattle.gdb_moves.proofs.passing.last_met.Given as goal

-- what has been searched has no reason
abbrev pub invariant-searches : goal.invariant-searches
invariant-searches g l = record {
  high : l.end ≤ l.below;
  inside : l.end ≤ length_of (session l.debugger);
  none : NoneIn (reason_unless l.passed (reason_at
      (wanted_stop (marked l.search.points.now) l.search.whose l.search.goal)
      (session l.debugger))) l.end l.below;
}

abbrev pub decreases-searches : goal.decreases-searches
decreases-searches g l = l.end
