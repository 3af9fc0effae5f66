use Rattle.std.proofs.Common.{◌≡◌, ◌++◌, drop, map}
use Rattle.trace_text.specs.Composites.{more_elements}
use Rattle.cmd_info.specs.Facts.{symbol_shown}
use Rattle.cmd_info.proofs.members.push_more_symbols.Given as goal

-- the text so far, and then the symbols that are left
abbrev pub invariant-symbols : goal.invariant-symbols
invariant-symbols g l = l.out.items ++ more_elements (map symbol_shown (drop l.symbol-index l.symbols))
    ≡ l.initial.out.items ++ more_elements (map symbol_shown l.symbols)
