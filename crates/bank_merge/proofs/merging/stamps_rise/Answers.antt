use Rattle.std.proofs.Common.{rules, ◌≡◌, ◌<◌, true, List, length, slice_index_or, arith, subst}
use Rattle.bank_laws.specs.Segments.{LoggedSegment}
use Rattle.bank_laws.specs.Order.{Rises, Earlier}
use Rattle.bank_merge.proofs.MergeLemmas.{all_rising, not_rising, rising_more}
use Rattle.bank_merge.proofs.merging.stamps_rise.Goals as goal

pub logs-init : goal.logs-init
logs-init g c = λ h low. absurd (omega (arith, low))

pub returns-then-not-is_rising : goal.returns-then-not-is_rising
returns-then-not-is_rising g c =
    let xs = c.args.logs.now in
    let x = c.log-item.result in
    let low : c.logs.log-index < length xs = search rules in
    let is : x ≡ slice_index_or xs c.logs.log-index x = search rules in
    not_rising xs c.logs.log-index x c.is_rising.result low is c.if-not-is_rising.true
    (subst (λ (es : List LoggedSegment). Rises Earlier es → c.is_rising.result ≡ true) c.segments.ensures c.is_rising.ensures.1)

pub logs-preserved : goal.logs-preserved
logs-preserved g c =
    let xs = c.args.logs.now in
    let x = c.log-item.result in
    let low : c.logs.log-index < length xs = search rules in
    let is : x ≡ slice_index_or xs c.logs.log-index x = search rules in
    rising_more xs c.logs.log-index x low is
    (subst (λ (es : List LoggedSegment). Rises Earlier es) c.segments.ensures (c.is_rising.ensures.0 c.if-not-is_rising.false)) c.logs.invariant

pub returns : goal.returns
returns g c = all_rising c.args.logs.now c.logs.log-index (omega arith) c.logs.invariant
