use Rattle.std.proofs.Common.{arith, ap, ◌∙◌, sym, ◌≡◌, ◌-◌}
use Rattle.debug_session.specs.Session.{session, reason_at, last_found}
use Rattle.debug_session.proofs.FoundLemmas.{last_none, found_there, found_elsewhere, if_there}
use Rattle.debug_session.proofs.BlockLemmas.{steps_of_blocks}
use Rattle.debug_session.proofs.debugger.Debugger.place_below.Goals as goal

pub returns-then-is_some-clause-found : goal.returns-then-is_some-clause-found
returns-then-is_some-clause-found g c =
    sym (found_there c.in_ok-place.place.position c.in_ok-place.place.reason _ (sym c.is_some.ensures ∙ c.if-is_some.true))
    ∙ c.in_ok-place.ensures.found ∙ c.pieces.invariant.left

pub returns-then-is_some-clause-cost : goal.returns-then-is_some-clause-cost
returns-then-is_some-clause-cost g c =
    steps_of_blocks c.in_ok-place.place.position c.pieces.end c.args.below c.pieces.cost c.in_ok-place.place.cost c.pieces-test.true
    c.pieces.invariant.counted c.in_ok-place.ensures.cost
    (if_there c.in_ok-place.place.reason _ (sym c.is_some.ensures ∙ c.if-is_some.true) c.in_ok-place.ensures.above) c.in_ok-place.ensures.inside

pub pieces-preserved : goal.pieces-preserved
pieces-preserved g c = record {
  inside = omega (arith, c.pieces.invariant.inside);
  counted = omega (arith, c.pieces.invariant.counted, c.in_ok-place.ensures.cost);
  left = sym (found_elsewhere c.in_ok-place.place.position c.in_ok-place.place.reason _ (sym c.is_some.ensures ∙ c.if-is_some.false))
      ∙ c.in_ok-place.ensures.found ∙ c.pieces.invariant.left;
}

pub returns-clause-found : goal.returns-clause-found
returns-clause-found g c =
    let none_left : 0 ≡ c.pieces.end = omega (arith, c.pieces-test.false) in
    last_none (reason_at (g.W.Wanted.reason c.args.wanted.now) (session c.args.self.now)) ∙ ap (last_found (reason_at (g.W.Wanted.reason c.args.wanted.now) (session c.args.self.now))) none_left ∙ c.pieces.invariant.left
