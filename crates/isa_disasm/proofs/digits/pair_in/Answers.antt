use Rattle.std.proofs.Common.{arith}
use Rattle.isa_disasm.proofs.DigitLemmas.{high_at, low_at}
use Rattle.isa_disasm.proofs.digits.pair_in.Goals as goal

pub returns-clause-high : goal.returns-clause-high
returns-clause-high c = high_at c.args.pairs.now c.args.byte c.requires (omega arith)

pub returns-clause-low : goal.returns-clause-low
returns-clause-low c = low_at c.args.pairs.now c.args.byte c.requires (omega arith)
