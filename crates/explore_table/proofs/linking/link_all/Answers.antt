use Rattle.std.proofs.Common.{length, refl, ap, sym, ◌∙◌, arith}
use Rattle.std.proofs.lemmas.List.{length-set}
use Rattle.explore_table.specs.Buckets.{bucket_of}
use Rattle.explore_table.proofs.LinkLemmas.{key_is, linked_all, linked_next, linked_none}
use Rattle.explore_table.proofs.linking.link_all.Goals as goal

pub rows-init : goal.rows-init
rows-init g c = record {
  linked = linked_none c.args.rows.now c.args.befores.now c.args.heads.now c.requires.some c.requires.even c.requires.none;
  within = omega arith;
  befores_len = refl;
  heads_len = refl;
}

pub rows-preserved : goal.rows-preserved
rows-preserved g c =
    let low = c.rows-test.true in
    record {
      linked = linked_next c.args.rows.now c.rows.befores c.rows.heads c.bucket_of-bucket.result _ c.rows.number
          c.rows.invariant.linked (omega (arith, low)) refl
          (◌∙◌ {b = bucket_of c.row.result.now (length c.rows.heads)} c.bucket_of-bucket.ensures.bucket
          (ap (λ key. bucket_of key (length c.rows.heads)) (sym (key_is c.args.rows.now c.rows.number c.row.result.now c.row.ensures))))
          c.bucket_of-bucket.ensures.within;
      within = omega (arith, low);
      befores_len = length-set c.rows.befores c.rows.number _ ∙ c.rows.invariant.befores_len;
      heads_len = length-set c.rows.heads c.bucket_of-bucket.result _ ∙ c.rows.invariant.heads_len;
    }

pub returns : goal.returns
returns g c =
    let past = c.rows-test.false in
    let within = c.rows.invariant.within in
    linked_all c.args.rows.now c.rows.befores c.rows.heads c.rows.number c.requires.few (omega (arith, past, within))
    c.rows.invariant.linked
