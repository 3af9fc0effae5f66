use Rattle.std.proofs.Common.{arith}
use Rattle.bank_threads.proofs.ListLemmas.{same_none, same_next, same_all}
use Rattle.bank_threads.proofs.compare.same_segments.Goals as goal

pub segments-init : goal.segments-init
segments-init g c = same_none _ _

pub segments-preserved : goal.segments-preserved
segments-preserved g c =
    let low = c.segments-test.true in
    let long = c.if-first-second.false in
    same_next _ _ _ _ _ c.segments.invariant low (omega (arith, low, long)) c.index-first-i.is c.index-second-i.is (c.same_segment.ensures c.if-not-same_segment.false)

pub returns : goal.returns
returns g c = λ e.
    let high = c.segments-test.false in
    same_all _ _ c.if-first-second.false (λ k low. c.segments.invariant k (omega (arith, low, high)))
