use Rattle.std.proofs.Common.{◌≡◌, ◌++◌, replicate}
use Rattle.asm_assemble.proofs.push.push_zeros.Given as goal

abbrev pub invariant-zeros : goal.invariant-zeros
invariant-zeros g l = l.out.items ≡ l.fn.out.items ++ replicate l.counter 0
