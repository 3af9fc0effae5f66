use Rattle.std.proofs.Common.{◌≡◌, ℕ, ap, arith, subst, sym}
use Rattle.debug_session.specs.Searches.{IsLeastStop}
use Rattle.debug_session.specs.Session.{Session, length_of, session, stop_behind}
use Rattle.debug_session.specs.Stops.{stop_at}
use Rattle.debug_session.proofs.SearchLemmas.{found_is_least}
use Rattle.debug_session.proofs.debugger.Debugger.go_on.Goals as goal

pub returns-clause-least : goal.returns-clause-least
returns-clause-least g c =
    let s = session c.args.self.now in
    let target = c.in_ok-target.target in
    subst (λ (k : ℕ). IsLeastStop (stop_behind s) s.position (length_of s) k target.reason)
    (sym (ap (λ (s : Session). s.position) c.settle.ensures.moved))
    (found_is_least (stop_at s.breaks s.watches) s target.position target.reason (omega arith) c.in_ok-target.ensures.found)
