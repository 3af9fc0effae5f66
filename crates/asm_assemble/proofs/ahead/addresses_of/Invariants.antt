use Rattle.std.proofs.Common.{◌≡◌, ◌+◌, ◌^◌, ◌++◌, drop}
use Rattle.asm_assemble.specs.Cursors.{CursorIsWithin}
use Rattle.asm_assemble.specs.Ahead.{addresses}
use Rattle.asm_assemble.proofs.ahead.addresses_of.Given as goal

abbrev pub invariant-statements : goal.invariant-statements
invariant-statements g l = record {
  small : CursorIsWithin (2 ^ 63 + l.statement-index) l.cursor;
  same : l.all.items ++ addresses l.cursor (drop l.statement-index l.statements) ≡ addresses l.fn.start l.statements;
}
