use Rattle.std.proofs.Common.{◌∙◌, ◌-◌, ℕ, ap, sym, arith}
use Rattle.debug_session.specs.Session.{session, length_of, reason_at}
use Rattle.debug_session.specs.Stops.{has}
use Rattle.gdb_moves.specs.Points.{marked}
use Rattle.gdb_moves.specs.Reasons.{wanted_stop}
use Rattle.gdb_moves.proofs.AfterLemmas.{least_end, least_met, least_passed, least_bounds}
use Rattle.gdb_moves.proofs.passing.first_met.Goals as goal

pub returns-in_default-clause-least : goal.returns-in_default-clause-least
returns-in_default-clause-least g c =
    let sought = c.args.search.now in
    let wish = wanted_stop (marked sought.points.now) sought.whose sought.goal in
    let reason = reason_at wish (session c.args.debugger.now) in
    rw c.position-position.ensures
    (least_end c.args.passed.now reason c.args.from c.searches.begin
    (length_of (session c.args.debugger.now)) c.in_ok-target.target.position
    c.in_ok-target.target.reason c.searches.invariant.none
    (sym c.reason.ensures ∙ c.in_default.is) c.in_ok-target.ensures.least)

pub returns-then-not-is_own-clause-least : goal.returns-then-not-is_own-clause-least
returns-then-not-is_own-clause-least g c =
    let sought = c.args.search.now in
    let wish = wanted_stop (marked sought.points.now) sought.whose sought.goal in
    let reason = reason_at wish (session c.args.debugger.now) in
    rw c.position-position.ensures
    (least_met c.args.passed.now reason c.args.from c.searches.begin
    (length_of (session c.args.debugger.now)) c.in_ok-target.target.position
    c.in_ok-target.target.reason c.in-Some.stop c.searches.invariant.low
    c.searches.invariant.none (sym c.reason.ensures ∙ c.in-Some.is)
    (ap (λ (n : ℕ). has c.args.passed.now (n - 1)) (sym c.position-position.ensures)
    ∙ sym c.is_own.ensures ∙ c.if-not-is_own.true)
    c.in_ok-target.ensures.least)

pub searches-preserved : goal.searches-preserved
searches-preserved g c =
    let sought = c.args.search.now in
    let wish = wanted_stop (marked sought.points.now) sought.whose sought.goal in
    let reason = reason_at wish (session c.args.debugger.now) in
    let to = length_of (session c.args.debugger.now) in
    let k = c.in_ok-target.target.position in
    let bounds = least_bounds reason c.searches.begin to k c.in_ok-target.target.reason
    c.in-Some.stop (sym c.reason.ensures ∙ c.in-Some.is) c.in_ok-target.ensures.least in
    rw c.position-position.ensures (record {
      low = omega (arith, c.searches.invariant.low, bounds.0);
      inside = bounds.1;
      none = least_passed c.args.passed.now reason c.args.from c.searches.begin to k
          c.in_ok-target.target.reason c.in-Some.stop c.searches.invariant.none
          (sym c.reason.ensures ∙ c.in-Some.is)
          (ap (λ (n : ℕ). has c.args.passed.now (n - 1)) (sym c.position-position.ensures)
          ∙ sym c.is_own.ensures ∙ c.if-not-is_own.false)
          c.in_ok-target.ensures.least;
    })
