use Rattle.std.proofs.Common.{◌≡◌, ◌+◌, ◌*◌, ◌/◌, ◌%◌, ◌≤◌, take, length, vec_len}
use Rattle.mem_paged.specs.Table.{shared_values}
use Rattle.mem_paged.proofs.wrapping.padded.Given as goal

abbrev pub invariant-blanks : goal.invariant-blanks
invariant-blanks g l = record {
  begins : take (length l.pages) (shared_values l.all.items) ≡ shared_values l.pages;
  count : vec_len l.all ≡ length l.pages / 64 * 64 + l.counter;
  from : length l.pages % 64 ≤ l.counter;
}
