use Rattle.isa_disasm.proofs.buffer.LineBuffer.+push_hexadecimal.Given as goal

abbrev pub decreases-push_hexadecimal : goal.decreases-push_hexadecimal
decreases-push_hexadecimal l = l.number
