use Rattle.std.proofs.Common.{◌+◌, ◌^◌, length, arith}
use Rattle.asm_assemble.proofs.Within.{within_count, within_next}
use Rattle.asm_assemble.proofs.PlacingLemmas.{or_none, sized_all, sized_on}
use Rattle.asm_assemble.proofs.placing.last_sized.Goals as goal

pub statements-init : goal.statements-init
statements-init g c = record { small = c.requires; same = or_none _ }

pub if_sized-requires : goal.if_sized-requires
if_sized-requires g c =
    c.address.ensures.small (within_count c.statements.i (length c.args.statements.now) c.statements.cursor c.statements.invariant.small (omega arith) (omega arith))

pub step-cursor-requires : goal.step-cursor-requires
step-cursor-requires g c =
    within_count c.statements.i (length c.args.statements.now) c.statements.cursor c.statements.invariant.small (omega arith) (omega arith)

pub statements-preserved : goal.statements-preserved
statements-preserved g c = record {
  small = within_next (2 ^ 63) c.statements.i c.step-cursor.result (c.step-cursor.ensures.small (2 ^ 63 + c.statements.i) c.statements.invariant.small);
  same = sized_on c.statements.i c.statements.cursor c.step-cursor.result c.index-statements-i.result c.args.statements.now c.statements.last c.or-last.result _
      (omega arith) c.index-statements-i.is c.step-cursor.ensures.value (cc) c.statements.invariant.same;
}

pub returns : goal.returns
returns g c = sized_all c.statements.i c.statements.cursor c.args.statements.now c.statements.last _ (omega arith) c.statements.invariant.same
