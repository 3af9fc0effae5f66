use Rattle.std.proofs.Common.{rules, ◌≡◌, ◌+◌, ◌++◌, ◌<◌, length, drop, ap, slice_index_or}
use Rattle.bank_merge.specs.Matching.{bank_accesses}
use Rattle.bank_merge.proofs.SetLemmas.{drop_item, more_taken}
use Rattle.bank_merge.proofs.matching.of_banks.Goals as goal

pub banks-preserved : goal.banks-preserved
banks-preserved g c =
    let xs = c.args.banks.now in
    let i = c.banks.bank-index in
    let x = c.bank-item.result in
    let low : i < length xs = search rules in
    let is : x ≡ slice_index_or xs i x = search rules in
    let put : c.push_all.new.list.items ≡ c.banks.list.items ++ x.log = search rules in
    more_taken c.banks.list.items c.push_all.new.list.items x.log (bank_accesses (drop i xs)) (bank_accesses (drop (i + 1) xs)) _ put (ap (λ l. bank_accesses l) (drop_item xs i x low is)) c.banks.invariant
