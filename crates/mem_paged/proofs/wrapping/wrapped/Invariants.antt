use Rattle.std.proofs.Common.{◌≡◌, take, vec_len}
use Rattle.mem_paged.specs.Table.{shared_values}
use Rattle.mem_paged.proofs.wrapping.wrapped.Given as goal

abbrev pub invariant-pages : goal.invariant-pages
invariant-pages g l = record {
  values : shared_values l.shared.items ≡ take l.page-index l.pages;
  len : vec_len l.shared ≡ l.page-index;
}
