use Rattle.std.proofs.Common.{rules, ◌<◌, length}
use Rattle.bank_merge.specs.Matching.{is_among}
use Rattle.bank_merge.proofs.SetLemmas.{item_in}
use Rattle.bank_merge.proofs.matching.set_of.Goals as goal

pub accesses-preserved : goal.accesses-preserved
accesses-preserved g c =
    let low : c.accesses.access-index < length c.args.accesses.now = search rules in
    item_in c.accesses.set c.insert.new.set c.args.accesses.now c.accesses.access-index _ (λ a. is_among c.args.accesses.now a) low c.accesses.invariant c.in_ok-insert.ensures
