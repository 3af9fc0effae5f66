use Rattle.std.proofs.Common.{◌≡◌, drop, []}
use Rattle.asm_assemble.specs.Program.{symbol_list}
use Rattle.asm_assemble.specs.Placing.{globals_from}
use Rattle.asm_assemble.proofs.placing.globals_of.Given as goal

abbrev pub invariant-statements : goal.invariant-statements
invariant-statements g l =
    globals_from (symbol_list l.names.entries) (drop l.statement-index l.statements) ≡ globals_from [] l.statements
