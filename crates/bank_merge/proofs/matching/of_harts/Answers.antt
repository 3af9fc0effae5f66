use Rattle.std.proofs.Common.{rules, subst, List, ◌≡◌, ◌+◌, ◌++◌, ◌<◌, length, drop, ap, slice_index_or}
use Rattle.bank_laws.specs.Segments.{LoggedSegment, accesses}
use Rattle.bank_merge.specs.Matching.{hart_accesses}
use Rattle.bank_merge.proofs.SetLemmas.{drop_item, more_taken}
use Rattle.bank_merge.proofs.matching.of_harts.Goals as goal

pub logs-preserved : goal.logs-preserved
logs-preserved g c =
    let xs = c.args.logs.now in
    let i = c.logs.log-index in
    let x = c.log-item.result in
    let low : i < length xs = search rules in
    let is : x ≡ slice_index_or xs i x = search rules in
    let put : c.push_segments.new.list.items ≡ c.logs.list.items ++ accesses x.log =
    subst (λ (es : List LoggedSegment). c.push_segments.new.list.items ≡ c.logs.list.items ++ accesses es) c.segments.ensures c.in_ok-push_segments.ensures in
    more_taken c.logs.list.items c.push_segments.new.list.items (accesses x.log) (hart_accesses (drop i xs)) (hart_accesses (drop (i + 1) xs)) _ put (ap (λ l. hart_accesses l) (drop_item xs i x low is)) c.logs.invariant
