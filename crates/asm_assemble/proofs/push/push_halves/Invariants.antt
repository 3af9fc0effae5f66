use Rattle.std.proofs.Common.{◌≡◌, ◌++◌, drop}
use Rattle.asm_assemble.specs.Valuing.{half_list}
use Rattle.asm_assemble.proofs.push.push_halves.Given as goal

abbrev pub invariant-numbers : goal.invariant-numbers
invariant-numbers g l = l.out.items ++ half_list (drop l.number-index l.numbers) ≡ l.fn.out.items ++ half_list l.numbers
