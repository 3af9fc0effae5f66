use Rattle.std.proofs.Common.{arith}
use Rattle.isa_disasm.proofs.BufferLemmas.{short_after}
use Rattle.isa_disasm.proofs.DigitLemmas.{upper_short}
use Rattle.isa_disasm.proofs.buffer.LineBuffer.push_upper_immediate.Goals as goal

pub returns-clause-short : goal.returns-clause-short
returns-clause-short c = short_after _ _ _ 5 c.push_hexadecimal.ensures.value (upper_short c.high.result (omega arith))
