use Rattle.std.proofs.Common.{◌≡◌, drop}
use Rattle.asm_assemble.specs.Program.{symbol_list}
use Rattle.asm_assemble.specs.Placing.{with_names}
use Rattle.asm_assemble.proofs.placing.add_names.Given as goal

abbrev pub invariant-names : goal.invariant-names
invariant-names g l =
    with_names (symbol_list l.table.entries) (drop l.name-index l.names) ≡ with_names (symbol_list l.fn.table.entries) l.names
