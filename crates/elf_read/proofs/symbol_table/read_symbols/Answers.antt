use Rattle.std.proofs.Common.{◌∙◌, sym, arith}
use Rattle.elf_read.proofs.SymbolLemmas.{symbols_end, symbol_refused, symbol_unnamed, symbol_named}
use Rattle.elf_read.proofs.symbol_table.read_symbols.Goals as goal

pub word_at-requires : goal.word_at-requires
word_at-requires g c = omega (arith, c.symbols.invariant.0, c.requires, c.symbols-test.true)

pub read_symbol-requires : goal.read_symbol-requires
read_symbol-requires g c = omega (arith, c.symbols.invariant.0, c.requires, c.symbols-test.true)

pub symbols-preserved-then-is_empty : goal.symbols-preserved-then-is_empty
symbols-preserved-then-is_empty g c = (
  omega (arith, c.symbols.invariant.0),
  symbol_unnamed c.args.names.now c.args.bytes.now c.symbols.symbols.items c.symbols.at c.args.count c.symbols.counter _ c.symbols-test.true c.symbols.invariant.1 c.in-Some.name.now (rw (← c.word_at.ensures) c.in-Some.ensures) c.if-is_empty.ensures,
)

pub symbols-preserved : goal.symbols-preserved
symbols-preserved g c = (
  omega (arith, c.symbols.invariant.0),
  symbol_named c.args.names.now c.args.bytes.now c.symbols.symbols.items c.symbols.at c.args.count c.symbols.counter _ c.symbols-test.true c.symbols.invariant.1 c.in-Some.name.now c.push.new.self.items (rw (← c.word_at.ensures) c.in-Some.ensures) c.if-is_empty.ensures
      (rw (c.read_symbol.ensures, c.in-Ok.ensures.ok) at c.in-Ok-push.ensures.items),
)

pub returns-in_default : goal.returns-in_default
returns-in_default g c = symbol_refused c.args.names.now c.args.bytes.now c.symbols.symbols.items c.symbols.at c.args.count c.symbols.counter _ c.symbols-test.true c.symbols.invariant.1 (rw (← c.word_at.ensures) c.in_default.ensures)

pub returns : goal.returns
returns g c = sym c.symbols.invariant.1 ∙ symbols_end c.args.names.now c.args.bytes.now c.symbols.symbols.items c.symbols.at c.args.count c.symbols.counter c.symbols-test.false
