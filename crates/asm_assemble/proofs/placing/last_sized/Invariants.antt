use Rattle.std.proofs.Common.{◌≡◌, ◌+◌, ◌^◌, drop}
use Rattle.std.specs.Option.{option_or}
use Rattle.asm_assemble.specs.Cursors.{CursorIsWithin}
use Rattle.asm_assemble.specs.Placing.{last_sized}
use Rattle.asm_assemble.proofs.placing.last_sized.Given as goal

abbrev pub invariant-statements : goal.invariant-statements
invariant-statements g l = record {
  small : CursorIsWithin (2 ^ 63 + l.i) l.cursor;
  same : option_or (last_sized l.i l.cursor (drop l.i l.statements)) l.last ≡ last_sized 0 l.fn.start l.statements;
}
