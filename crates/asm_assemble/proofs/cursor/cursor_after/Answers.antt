use Rattle.std.proofs.Common.{◌+◌, ◌^◌, length, refl, arith}
use Rattle.asm_assemble.proofs.Within.{within_more, within_count, within_next}
use Rattle.asm_assemble.proofs.CursorSteps.{cursor_step, cursor_end}
use Rattle.asm_assemble.proofs.cursor.cursor_after.Goals as goal

pub statements-init : goal.statements-init
statements-init g c = record {
  small = c.requires;
  grows = λ n h. within_more n (n + 0) c.args.start h (omega arith);
  same = refl;
}

pub step-cursor-requires : goal.step-cursor-requires
step-cursor-requires g c =
    within_count c.statements.statement-index (length c.args.statements.now) c.statements.cursor c.statements.invariant.small c.statements-test.true c.count_of-count.ensures.small

pub statements-preserved : goal.statements-preserved
statements-preserved g c = record {
  small = within_next (2 ^ 63) c.statements.statement-index c.step-cursor.result (c.step-cursor.ensures.small (2 ^ 63 + c.statements.statement-index) c.statements.invariant.small);
  grows = λ n h. within_next n c.statements.statement-index c.step-cursor.result (c.step-cursor.ensures.small (n + c.statements.statement-index) (c.statements.invariant.grows n h));
  same = cursor_step c.statements.cursor c.step-cursor.result _ c.args.statements.now c.statements.statement-index c.statement-item.result c.statements-test.true c.statement-item.is c.step-cursor.ensures.value c.statements.invariant.same;
}

pub returns-clause-value : goal.returns-clause-value
returns-clause-value g c = cursor_end c.statements.cursor _ c.args.statements.now c.statements.statement-index c.statements-test.false c.statements.invariant.same

pub returns-clause-small : goal.returns-clause-small
returns-clause-small g c n h =
    within_more (n + c.statements.statement-index) (n + 2 ^ 61) c.statements.cursor (c.statements.invariant.grows n h) (omega (arith, c.statements.auto.statement-index-end, c.count_of-count.ensures.small))
