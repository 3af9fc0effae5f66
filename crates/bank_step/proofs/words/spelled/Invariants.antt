use Rattle.std.proofs.Common.{◌≡◌, ◌/◌, ◌^◌, length}
use Rattle.mem_flat.specs.Blocks.{spelled}
use Rattle.bank_step.proofs.words.spelled.Given as goal

abbrev pub invariant-digits : goal.invariant-digits
invariant-digits l = record {
  bytes_are : l.bytes ≡ spelled l.k l.fn.bytes l.offset l.value;
  rest_is : l.rest ≡ l.value / 256 ^ l.k;
  long : length l.bytes ≡ 4;
}
