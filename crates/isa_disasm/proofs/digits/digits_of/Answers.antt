use Rattle.std.proofs.Common.{arith}
use Rattle.isa_disasm.proofs.DigitLemmas.{word_by_digits}
use Rattle.isa_disasm.proofs.digits.digits_of.Goals as goal

pub returns : goal.returns
returns c = word_by_digits c.args.word _ _ _ _ _ _ _ _ (omega arith)
    c.pair_in.ensures.high c.pair_in.ensures.low c.pair_in-2.ensures.high c.pair_in-2.ensures.low
    c.pair_in-3.ensures.high c.pair_in-3.ensures.low c.pair_in-4.ensures.high c.pair_in-4.ensures.low
