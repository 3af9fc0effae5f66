use Rattle.std.proofs.Common.{◌≡◌, ◌++◌, ◌-◌}
use Rattle.asm_assemble.specs.Valuing.{nops}
use Rattle.asm_assemble.proofs.push.push_nops.Given as goal

abbrev pub invariant-nops : goal.invariant-nops
invariant-nops g l = l.out.items ++ nops (l.count - l.counter) ≡ l.fn.out.items ++ nops l.count
