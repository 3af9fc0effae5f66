use Rattle.std.proofs.Common.{rules, ◌≡◌, ◌+◌, ◌<◌, ◌≤◌, Bool, length, drop, slice_index_or, ap, subst}
use Rattle.bank_laws.specs.Segments.{accesses}
use Rattle.bank_merge.specs.AccessOrder.{bank_logs, Passes}
use Rattle.bank_merge.proofs.ListLemmas.{drop_here, drop_none}
use Rattle.bank_merge.proofs.PlaceLemmas.{goes_last, goes_next, goes_not}
use Rattle.bank_merge.proofs.places.pass_all.Goals as goal

pub returns-then-not-pass_segment : goal.returns-then-not-pass_segment
returns-then-not-pass_segment g c =
    let banks = bank_logs c.args.banks.now in
    let h = c.args.hart in
    let xs = c.args.segments.now in
    let i = c.segments.segment-index in
    let x = c.segment-item.result in
    let low : i < length xs = search rules in
    let is : x ≡ slice_index_or xs i x = search rules in
    goes_not banks h c.args.places.now c.segments.places c.pass_segment.new.places (accesses xs) (accesses (drop i xs)) x.accesses (accesses (drop (i + 1) xs))
    (ap accesses (drop_here xs i x low is)) c.segments.invariant
    (subst (λ (b : Bool). Passes banks h c.segments.places c.pass_segment.new.places x.accesses b) c.if-not-pass_segment.true c.pass_segment.ensures)

pub segments-preserved : goal.segments-preserved
segments-preserved g c =
    let banks = bank_logs c.args.banks.now in
    let h = c.args.hart in
    let xs = c.args.segments.now in
    let i = c.segments.segment-index in
    let x = c.segment-item.result in
    let low : i < length xs = search rules in
    let is : x ≡ slice_index_or xs i x = search rules in
    goes_next banks h c.args.places.now c.segments.places c.pass_segment.new.places (accesses xs) (accesses (drop i xs)) x.accesses (accesses (drop (i + 1) xs))
    (ap accesses (drop_here xs i x low is)) c.segments.invariant
    (subst (λ (b : Bool). Passes banks h c.segments.places c.pass_segment.new.places x.accesses b) c.if-not-pass_segment.false c.pass_segment.ensures)

pub returns : goal.returns
returns g c =
    let xs = c.args.segments.now in
    let past : length xs ≤ c.segments.segment-index = search rules in
    goes_last (bank_logs c.args.banks.now) c.args.hart c.args.places.now c.segments.places (accesses xs) (accesses (drop c.segments.segment-index xs))
    (ap accesses (drop_none xs c.segments.segment-index past)) c.segments.invariant
