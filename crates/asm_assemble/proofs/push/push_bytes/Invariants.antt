use Rattle.std.proofs.Common.{◌≡◌, ◌++◌, drop}
use Rattle.asm_assemble.specs.Valuing.{byte_list}
use Rattle.asm_assemble.proofs.push.push_bytes.Given as goal

abbrev pub invariant-numbers : goal.invariant-numbers
invariant-numbers g l = l.out.items ++ byte_list (drop l.number-index l.numbers) ≡ l.fn.out.items ++ byte_list l.numbers
