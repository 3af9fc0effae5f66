use Rattle.debug_session.specs.Session.{session}
use Rattle.debug_session.proofs.SearchLemmas.{found_below_is_greatest}
use Rattle.debug_session.proofs.debugger.Debugger.last_below.Goals as goal

pub returns-clause-greatest : goal.returns-clause-greatest
returns-clause-greatest g c =
    found_below_is_greatest (g.W.Wanted.reason c.args.wanted.now) (session c.args.self.now) c.args.below c.in_ok-place.place.position c.in_ok-place.place.reason c.in_ok-place.ensures.found
