use Rattle.std.proofs.Common.{◌+◌, ◌^◌, sym, subst, arith}
use Rattle.asm_assemble.specs.Cursors.{CursorIsWithin}
use Rattle.asm_assemble.proofs.Within.{start_within}
use Rattle.asm_assemble.proofs.phases.first_cursor.Goals as goal

pub returns-clause-small : goal.returns-clause-small
returns-clause-small g c = subst (CursorIsWithin (2 ^ 62 + 3)) (sym c.start_at.ensures) (start_within (2 ^ 62 + 3) c.data_base-data_at.result c.zeros_base.result (omega (arith, c.data_base-data_at.ensures.small)) (omega (arith, c.zeros_base.ensures.small)))
