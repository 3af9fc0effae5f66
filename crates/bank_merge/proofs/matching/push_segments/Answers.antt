use Rattle.std.proofs.Common.{rules, ◌≡◌, ◌+◌, ◌<◌, length, drop, ap, slice_index_or}
use Rattle.bank_laws.specs.Segments.{accesses}
use Rattle.bank_merge.proofs.SetLemmas.{drop_item, more_taken}
use Rattle.bank_merge.proofs.matching.push_segments.Goals as goal

pub segments-preserved : goal.segments-preserved
segments-preserved g c =
    let xs = c.args.segments.now in
    let i = c.segments.segment-index in
    let x = c.segment-item.result in
    let low : i < length xs = search rules in
    let is : x ≡ slice_index_or xs i x = search rules in
    more_taken c.segments.list.items c.push_segment.new.list.items x.accesses (accesses (drop i xs)) (accesses (drop (i + 1) xs)) _ c.in_ok-push_segment.ensures (ap (λ l. accesses l) (drop_item xs i x low is)) c.segments.invariant
