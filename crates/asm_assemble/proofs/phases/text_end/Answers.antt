use Rattle.std.proofs.Common.{◌+◌, ◌^◌, sym, subst, arith}
use Rattle.asm_assemble.specs.Cursors.{CursorIsWithin}
use Rattle.asm_assemble.proofs.Within.{within_text, start_within}
use Rattle.asm_assemble.proofs.phases.text_end.Goals as goal

pub cursor_after-requires : goal.cursor_after-requires
cursor_after-requires g c = subst (CursorIsWithin (2 ^ 63)) (sym c.start_at.ensures) (start_within (2 ^ 63) 0 0 (omega arith) (omega arith))

pub returns-clause-small : goal.returns-clause-small
returns-clause-small g c = omega (arith, within_text (0 + 2 ^ 61) c.cursor_after.result (c.cursor_after.ensures.small 0 (subst (CursorIsWithin 0) (sym c.start_at.ensures) (start_within 0 0 0 (omega arith) (omega arith)))))
