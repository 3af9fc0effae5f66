use Rattle.std.proofs.Common.{◌+◌, ◌%◌, ◌^◌, length, ap, arith}
use Rattle.asm_assemble.proofs.Within.{within_count, within_next}
use Rattle.asm_assemble.proofs.AheadLemmas.{pushed_address}
use Rattle.asm_assemble.proofs.ahead.addresses_of.Goals as goal

pub step-cursor-requires : goal.step-cursor-requires
step-cursor-requires g c =
    within_count c.statements.statement-index (length c.args.statements.now) c.statements.cursor c.statements.invariant.small (omega arith) (omega arith)

pub statements-preserved : goal.statements-preserved
statements-preserved g c = record {
  small = within_next (2 ^ 63) c.statements.statement-index c.step-cursor.result
      (c.step-cursor.ensures.small (2 ^ 63 + c.statements.statement-index) c.statements.invariant.small);
  same = pushed_address c.statements.cursor c.step-cursor.result c.args.statements.now c.statements.statement-index _ c.statement-item.result
      c.statements.all.items c.push.new.self.items _ (omega arith) c.statement-item.is (ap (λ n. n % 2 ^ 32) c.address.ensures.value) c.in_ok-push.ensures.items c.step-cursor.ensures.value c.statements.invariant.same;
}
