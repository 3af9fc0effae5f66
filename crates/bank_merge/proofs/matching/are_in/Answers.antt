use Rattle.std.proofs.Common.{rules, ◌<◌, length, sym, ◌∙◌}
use Rattle.bank_merge.proofs.SetLemmas.{item_not_in, item_still_in}
use Rattle.bank_merge.proofs.matching.are_in.Goals as goal

pub returns-then-not-is_in : goal.returns-then-not-is_in
returns-then-not-is_in g c =
    let low : c.accesses.access-index < length c.args.accesses.now = search rules in
    item_not_in c.args.set.now c.args.accesses.now c.accesses.access-index _ low c.accesses.invariant (sym c.is_in.ensures ∙ c.if-not-is_in.true)

pub accesses-preserved : goal.accesses-preserved
accesses-preserved g c =
    let low : c.accesses.access-index < length c.args.accesses.now = search rules in
    item_still_in c.args.set.now c.args.accesses.now c.accesses.access-index _ low c.accesses.invariant (sym c.is_in.ensures ∙ c.if-not-is_in.false)
