use Rattle.std.proofs.Common.{◌≡◌, ◌++◌, string_bytes, drop}
use Rattle.std.specs.List.{flat_map}
use Rattle.cmd_run.specs.Info.{symbol_entry}
use Rattle.cmd_run.proofs.info.push_symbols.Given as goal

-- the text so far, and then the lines that are left
abbrev pub invariant-symbols : goal.invariant-symbols
invariant-symbols g l = string_bytes l.text ++ flat_map symbol_entry (drop l.symbol-index l.symbols)
    ≡ string_bytes l.initial.text ++ flat_map symbol_entry l.symbols
