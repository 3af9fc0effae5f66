use Rattle.std.proofs.Common.{◌∙◌, ◌-◌, ℕ, List, length, min, ap, sym, arith}
use Rattle.machine.specs.declared.choice.Choice.{Choice}
use Rattle.debug_session.specs.Session.{session, reason_at}
use Rattle.debug_session.specs.Stops.{has}
use Rattle.gdb_moves.specs.Points.{marked}
use Rattle.gdb_moves.specs.Reasons.{wanted_stop}
use Rattle.gdb_moves.proofs.AfterLemmas.{greatest_end, greatest_met, greatest_passed, greatest_bounds, none_past}
use Rattle.gdb_moves.proofs.passing.last_met.Goals as goal

pub searches-init : goal.searches-init
searches-init g c =
    let sought = c.args.search.now in
    let wish = wanted_stop (marked sought.points.now) sought.whose sought.goal in
    let is = c.min-end.ensures
    ∙ ap (λ (list : List Choice). min c.args.below (length list)) c.choices.ensures in
    record {
      high = omega (arith, is);
      inside = omega (arith, is);
      none = none_past c.args.passed.now wish (session c.args.debugger.now) c.min-end.result
          c.args.below (λ i low high. omega (arith, is, low, high));
    }

pub returns-in_default-clause-greatest : goal.returns-in_default-clause-greatest
returns-in_default-clause-greatest g c =
    let sought = c.args.search.now in
    let wish = wanted_stop (marked sought.points.now) sought.whose sought.goal in
    let reason = reason_at wish (session c.args.debugger.now) in
    rw c.position-position.ensures
    (greatest_end c.args.passed.now reason c.searches.end c.args.below
    c.in_ok-target.target.position c.in_ok-target.target.reason c.searches.invariant.none
    (sym c.reason.ensures ∙ c.in_default.is) c.in_ok-target.ensures.greatest)

pub returns-then-not-is_own-clause-greatest : goal.returns-then-not-is_own-clause-greatest
returns-then-not-is_own-clause-greatest g c =
    let sought = c.args.search.now in
    let wish = wanted_stop (marked sought.points.now) sought.whose sought.goal in
    let reason = reason_at wish (session c.args.debugger.now) in
    rw c.position-position.ensures
    (greatest_met c.args.passed.now reason c.searches.end c.args.below
    c.in_ok-target.target.position c.in_ok-target.target.reason c.in-Some.stop
    c.searches.invariant.high c.searches.invariant.none
    (sym c.reason.ensures ∙ c.in-Some.is)
    (ap (λ (n : ℕ). has c.args.passed.now (n - 1)) (sym c.position-position.ensures)
    ∙ sym c.is_own.ensures ∙ c.if-not-is_own.true)
    c.in_ok-target.ensures.greatest)

pub searches-preserved : goal.searches-preserved
searches-preserved g c =
    let sought = c.args.search.now in
    let wish = wanted_stop (marked sought.points.now) sought.whose sought.goal in
    let reason = reason_at wish (session c.args.debugger.now) in
    let k = c.in_ok-target.target.position in
    let bounds = greatest_bounds reason c.searches.end k c.in_ok-target.target.reason
    c.in-Some.stop (sym c.reason.ensures ∙ c.in-Some.is) c.in_ok-target.ensures.greatest in
    rw c.position-position.ensures (record {
      high = omega (arith, c.searches.invariant.high, bounds.1);
      inside = omega (arith, c.searches.invariant.inside, bounds.1);
      none = greatest_passed c.args.passed.now reason c.searches.end c.args.below k
          c.in_ok-target.target.reason c.in-Some.stop c.searches.invariant.none
          (sym c.reason.ensures ∙ c.in-Some.is)
          (ap (λ (n : ℕ). has c.args.passed.now (n - 1)) (sym c.position-position.ensures)
          ∙ sym c.is_own.ensures ∙ c.if-not-is_own.false)
          c.in_ok-target.ensures.greatest;
    })
