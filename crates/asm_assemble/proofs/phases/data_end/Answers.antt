use Rattle.std.proofs.Common.{◌+◌, ◌^◌, sym, subst, arith}
use Rattle.asm_assemble.specs.Cursors.{CursorIsWithin}
use Rattle.asm_assemble.proofs.Within.{within_data, start_within}
use Rattle.asm_assemble.proofs.phases.data_end.Goals as goal

pub cursor_after-requires : goal.cursor_after-requires
cursor_after-requires g c = subst (CursorIsWithin (2 ^ 63)) (sym c.start_at.ensures) (start_within (2 ^ 63) c.args.data_at 0 (omega (arith, c.requires)) (omega arith))

pub returns-clause-small : goal.returns-clause-small
returns-clause-small g c = omega (arith, within_data (2 ^ 61 + 1 + 2 ^ 61) c.cursor_after.result (c.cursor_after.ensures.small (2 ^ 61 + 1) (subst (CursorIsWithin (2 ^ 61 + 1)) (sym c.start_at.ensures) (start_within (2 ^ 61 + 1) c.args.data_at 0 (omega (arith, c.requires)) (omega arith)))))
