use Rattle.std.proofs.Common.{◌≡◌, drop}
use Rattle.asm_assemble.specs.Program.{symbol_list}
use Rattle.asm_assemble.specs.Valuing.{word_list, appended}
use Rattle.asm_assemble.proofs.push.push_words.Given as goal

abbrev pub invariant-values : goal.invariant-values
invariant-values g l = appended l.out.items (word_list (symbol_list l.symbols.entries) (drop l.value-index l.values)) ≡ appended l.fn.out.items (word_list (symbol_list l.symbols.entries) l.values)
