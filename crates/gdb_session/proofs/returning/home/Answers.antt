use Rattle.debug_session.specs.Session.{session}
use Rattle.gdb_session.proofs.HomeLemmas.{home_is_here}
use Rattle.gdb_session.proofs.returning.home.Goals as goal

pub returns-clause-here : goal.returns-clause-here
returns-clause-here g c =
    home_is_here (λ t. t.position) (λ t. t.reason) (session c.args.debugger.now)
    c.position.result c.last_below.result c.position.ensures.inside c.position.ensures.value
    c.last_below.ensures.found
