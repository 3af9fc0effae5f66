use Rattle.std.proofs.Common.{◌≡◌, ◌*◌, take, vec_len}
use Rattle.mem_paged.specs.Table.{pages_of, shared_values}
use Rattle.mem_paged.proofs.wrapping.chunks_of.Given as goal

abbrev pub invariant-parts : goal.invariant-parts
invariant-parts g l = record {
  pages : pages_of l.chunks.items ≡ shared_values (take (l.i * 64) l.pages);
  count : vec_len l.chunks ≡ l.i;
}
