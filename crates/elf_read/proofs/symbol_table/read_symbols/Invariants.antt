use Rattle.std.proofs.Common.{◌≡◌, ◌+◌, ◌*◌, ◌-◌, []}
use Rattle.elf_read.specs.SymbolTable.{symbols_from}
use Rattle.elf_read.proofs.symbol_table.read_symbols.Given as goal

abbrev pub invariant-symbols : goal.invariant-symbols
invariant-symbols g l = (l.at ≡ l.start + 16 * l.counter) × (symbols_from l.names l.bytes l.symbols.items l.at (l.count - l.counter) ≡ symbols_from l.names l.bytes [] l.start l.count)
