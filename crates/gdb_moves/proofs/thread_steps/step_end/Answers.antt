use Rattle.debug_session.specs.Session.{session}
use Rattle.gdb_moves.specs.Points.{marked}
use Rattle.gdb_moves.proofs.StepLemmas.{step_is}
use Rattle.gdb_moves.proofs.thread_steps.step_end.Goals as goal

pub returns-clause-found : goal.returns-clause-found
returns-clause-found g c =
    step_is (λ t. t.position) (λ t. t.stop) (marked c.args.points.now) c.args.hart c.args.range
    c.args.passed.now c.args.from (session c.args.debugger.now) c.in_ok-own.own.position
    c.in_ok-own.own.stop c.then_next.result c.in_ok-own.ensures.least c.then_next.ensures.found
