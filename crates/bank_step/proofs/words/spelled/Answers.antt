use Rattle.std.proofs.Common.{◌+◌, ◌%◌, ◌∙◌}
use Rattle.std.proofs.lemmas.List.{length-set}
use Rattle.bank_step.proofs.BytesLemmas.{spelled_next, digit_next}
use Rattle.bank_step.proofs.words.spelled.Goals as goal

pub digits-preserved : goal.digits-preserved
digits-preserved c = record {
  bytes_are = spelled_next c.digits.k c.args.bytes c.digits.bytes c.args.offset c.args.value c.digits.rest c.digits.invariant.bytes_are c.digits.invariant.rest_is;
  rest_is = digit_next c.digits.k c.args.value c.digits.rest c.digits.invariant.rest_is;
  long = length-set c.digits.bytes (c.args.offset + c.digits.k) (c.digits.rest % 256) ∙ c.digits.invariant.long;
}
