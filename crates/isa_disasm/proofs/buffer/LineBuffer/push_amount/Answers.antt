use Rattle.std.proofs.Common.{arith}
use Rattle.isa_disasm.proofs.BufferLemmas.{short_after}
use Rattle.isa_disasm.proofs.DigitLemmas.{amount_short}
use Rattle.isa_disasm.proofs.buffer.LineBuffer.push_amount.Goals as goal

pub returns-clause-short : goal.returns-clause-short
returns-clause-short c = short_after _ _ _ 2 c.push_decimal.ensures.value (amount_short c.from.result (omega arith))
