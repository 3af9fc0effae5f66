use Rattle.std.proofs.Common.{◌≡◌, ℕ, ◌+◌, ◌^◌, drop}
use Rattle.asm_assemble.specs.Cursors.{cursor_after, CursorIsWithin}
use Rattle.asm_assemble.proofs.cursor.cursor_after.Given as goal

abbrev pub invariant-statements : goal.invariant-statements
invariant-statements g l = record {
  small : CursorIsWithin (2 ^ 63 + l.statement-index) l.cursor;
  grows : (n : ℕ) → CursorIsWithin n l.fn.start → CursorIsWithin (n + l.statement-index) l.cursor;
  same : cursor_after l.cursor (drop l.statement-index l.statements) ≡ cursor_after l.fn.start l.statements;
}
