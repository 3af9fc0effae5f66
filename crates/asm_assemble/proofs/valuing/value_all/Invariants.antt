use Rattle.std.proofs.Common.{◌≡◌, ◌+◌, ◌^◌, drop, []}
use Rattle.asm_assemble.specs.Cursors.{CursorIsWithin}
use Rattle.asm_assemble.specs.Program.{symbol_list}
use Rattle.asm_assemble.specs.Valuing.{valuing, no_bytes}
use Rattle.std.specs.Prelude.{reverse}
use Rattle.asm_assemble.specs.Ahead.{addresses, references}
use Rattle.asm_assemble.proofs.valuing.value_all.Given as goal

abbrev pub invariant-statements : goal.invariant-statements
invariant-statements g l = record {
  small : CursorIsWithin (2 ^ 62 + 2 ^ 60 + l.statement-index) l.cursor;
  left : reverse l.aheads.items ≡ references (addresses l.cursor (drop l.statement-index l.statements)) (drop l.statement-index l.statements);
  same : valuing (symbol_list l.symbols.entries) (symbol_list l.before.entries) l.sections l.cursor (drop l.statement-index l.statements)
      ≡ valuing (symbol_list l.symbols.entries) [] no_bytes l.fn.start l.statements;
}
