use Rattle.std.proofs.Common.{◌≡◌, ℕ, ◌-◌, ap, subst, sym}
use Rattle.debug_session.specs.Searches.{IsGreatestStop}
use Rattle.debug_session.specs.Session.{Session, session, stop_behind}
use Rattle.debug_session.specs.Stops.{stop_at}
use Rattle.debug_session.proofs.SearchLemmas.{found_is_greatest}
use Rattle.debug_session.proofs.debugger.Debugger.go_back.Goals as goal

pub returns-clause-greatest : goal.returns-clause-greatest
returns-clause-greatest g c =
    let s = session c.args.self.now in
    let target = c.in_ok-target.target in
    subst (λ (k : ℕ). IsGreatestStop (stop_behind s) (s.position - 1) k target.reason)
    (sym (ap (λ (s : Session). s.position) c.settle.ensures.moved))
    (found_is_greatest (stop_at s.breaks s.watches) s target.position target.reason c.in_ok-target.ensures.found)
