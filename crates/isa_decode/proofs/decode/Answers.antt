use Rattle.std.proofs.Common.{arith}
use Rattle.isa_table.proofs.Found.{decoded_iff_spells}
use Rattle.isa_decode.proofs.decode.Goals as goal

pub returns-clause-spelled : goal.returns-clause-spelled
returns-clause-spelled c i = rw c.instr_at.ensures (decoded_iff_spells c.args.word i (omega arith))
