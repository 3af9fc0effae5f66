use Rattle.std.proofs.Common.{◌≡◌, take, vec_len}
use Rattle.mem_paged.specs.Table.{shared_values}
use Rattle.mem_paged.proofs.sharing.share.Given as goal

abbrev pub invariant-items : goal.invariant-items
invariant-items g l = record {
  values : shared_values l.copies.items ≡ shared_values (take l.item-index l.items);
  len : vec_len l.copies ≡ l.item-index;
}
