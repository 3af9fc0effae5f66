use Rattle.std.proofs.Common.{arith, ap, length}
use Rattle.isa_disasm.proofs.BufferLemmas.{short_after}
use Rattle.isa_disasm.proofs.NameLemmas.{abi_short}
use Rattle.isa_disasm.proofs.buffer.LineBuffer.push_register.Goals as goal

pub returns-clause-short : goal.returns-clause-short
returns-clause-short c =
    short_after c.args.self.now c.abi_name.result.now c.push_short.new.self 4 c.push_short.ensures
    (omega (arith, ap length c.abi_name.ensures, abi_short c.args.register))
