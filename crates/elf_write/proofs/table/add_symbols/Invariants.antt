use Rattle.std.proofs.Common.{◌≡◌, drop}
use Rattle.asm_assemble.specs.Program.{symbol_list}
use Rattle.elf_write.specs.Table.{with_symbols, bound}
use Rattle.elf_write.proofs.table.add_symbols.Given as goal

abbrev pub invariant-symbols : goal.invariant-symbols
invariant-symbols g l = with_symbols l.tables (bound l.global (drop l.i (symbol_list l.symbols.entries))) ≡ with_symbols l.initial.tables (bound l.global (symbol_list l.symbols.entries))
