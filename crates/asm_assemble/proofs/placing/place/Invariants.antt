use Rattle.std.proofs.Common.{◌≡◌, ◌+◌, ◌^◌, drop, []}
use Rattle.asm_assemble.specs.Cursors.{CursorIsWithin}
use Rattle.asm_assemble.specs.Program.{symbol_list}
use Rattle.asm_assemble.specs.Placing.{placing}
use Rattle.asm_assemble.proofs.placing.place.Given as goal

abbrev pub invariant-statements : goal.invariant-statements
invariant-statements g l = record {
  small : CursorIsWithin (2 ^ 63 + l.i) l.cursor;
  same : placing (symbol_list l.globals.entries) (symbol_list l.symbols.entries) l.heavy l.i l.cursor (drop l.i l.statements)
      ≡ placing (symbol_list l.globals.entries) [] l.heavy 0 l.fn.start l.statements;
}
