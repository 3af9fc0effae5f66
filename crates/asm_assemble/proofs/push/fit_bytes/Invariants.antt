use Rattle.std.proofs.Common.{◌≡◌, ◌^◌, drop}
use Rattle.std.specs.List.{list_all}
use Rattle.asm_assemble.specs.Numbers.{is_in_range}
use Rattle.asm_assemble.proofs.push.fit_bytes.Given as goal

abbrev pub invariant-numbers : goal.invariant-numbers
invariant-numbers l = list_all (is_in_range (2 ^ 7) (2 ^ 8)) (drop l.number-index l.numbers) ≡ list_all (is_in_range (2 ^ 7) (2 ^ 8)) l.numbers
