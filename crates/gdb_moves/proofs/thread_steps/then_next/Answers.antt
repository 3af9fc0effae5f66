use Rattle.std.proofs.Common.{◌∙◌, sym}
use Rattle.debug_session.specs.Session.{session}
use Rattle.gdb_moves.specs.Points.{marked}
use Rattle.gdb_moves.proofs.StepLemmas.{next_is}
use Rattle.gdb_moves.proofs.thread_steps.then_next.Goals as goal

pub returns-clause-found : goal.returns-clause-found
returns-clause-found g c =
    next_is (marked c.args.points.now) c.args.hart c.args.passed.now (session c.args.debugger.now)
    c.args.own.position c.in_ok-next.next.position c.args.own.stop c.in_ok-next.next.stop
    c.or_done.result c.in-Some.stop c.in-Some.is
    (sym c.is_ready.ensures ∙ c.if-not-is_ready.false) c.in_ok-next.ensures.least
    c.or_done.ensures
