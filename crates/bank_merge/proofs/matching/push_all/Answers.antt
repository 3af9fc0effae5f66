use Rattle.std.proofs.Common.{rules, ◌+◌, ◌<◌, length, drop}
use Rattle.bank_merge.proofs.SetLemmas.{item_at, more_taken}
use Rattle.bank_merge.proofs.matching.push_all.Goals as goal

pub accesses-preserved : goal.accesses-preserved
accesses-preserved g c =
    let xs = c.args.accesses.now in
    let i = c.accesses.access-index in
    let low : i < length xs = search rules in
    more_taken c.accesses.list.items c.push.new.self.items _ (drop i xs) (drop (i + 1) xs) _ c.in_ok-push.ensures.items (item_at xs i _ low) c.accesses.invariant
