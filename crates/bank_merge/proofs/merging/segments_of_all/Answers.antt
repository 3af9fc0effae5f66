use Rattle.std.proofs.Common.{rules, ◌≡◌, ◌<◌, length, slice_index_or}
use Rattle.bank_merge.proofs.MergeLemmas.{more_logs}
use Rattle.bank_merge.proofs.merging.segments_of_all.Goals as goal

pub logs-preserved : goal.logs-preserved
logs-preserved g c =
    let xs = c.args.logs.now in
    let x = c.log-item.result in
    let low : c.logs.log-index < length xs = search rules in
    let is : x ≡ slice_index_or xs c.logs.log-index x = search rules in
    more_logs c.logs.all.items c.push.new.self.items xs c.logs.log-index x c.segments.result low is c.segments.ensures c.in_ok-push.ensures.items c.logs.invariant
