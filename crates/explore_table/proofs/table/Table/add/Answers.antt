use Rattle.std.proofs.Common.{sym, ◌∙◌, arith}
use Rattle.explore_table.proofs.LinkLemmas.{linked_added, when_ok}
use Rattle.explore_table.proofs.table.Table.add.Goals as goal

pub invariant_of-self-2 : goal.invariant_of-self-2
invariant_of-self-2 g c =
    linked_added c.self.inside.rows c.push-2.new.self c.args.key.now c.self.inside.befores.items c.push.new.self.items
    c.self.inside.heads.items c.bucket_of-bucket.result c.index-before.result.now c.len-number.result c.len-buckets.result
    c.self.invariant (when_ok c.push-2.result (sym c.is_err.ensures.value ∙ c.if-is_err.false) c.push-2.ensures.pushed)
    c.in_ok-push.ensures.items c.len-number.ensures (let few = c.if-number-ge4294967295.false in omega (arith, few))
    c.bucket_of-bucket.ensures.bucket (c.len-buckets.ensures ∙ c.self.inside.heads.ok.0) c.bucket_of-bucket.ensures.within c.index-before.ensures
