use Rattle.std.proofs.Common.{rules, arith}
use Rattle.hart_step.specs.Hart.{hart_of}
use Rattle.machine.specs.Machine.{world}
use Rattle.property_judge.specs.Judged.{judged_after}
use Rattle.property_judge.proofs.JudgedLemmas.{judged_more, all_judged}
use Rattle.property_judge.proofs.judged.judge_after.Goals as goal

pub loop-each-preserved : goal.loop-each-preserved
loop-each-preserved g c =
    judged_more (judged_after c.args.done (world g.S.Store.memory c.args.machine.now) (hart_of c.args.hart.now)) _ _ c.loop-each.each-index _ _
    c.loop-each.invariant (omega arith) (search rules) c.judge_one_after.ensures

pub returns : goal.returns
returns g c =
    all_judged (judged_after c.args.done (world g.S.Store.memory c.args.machine.now) (hart_of c.args.hart.now)) _ _ c.loop-each.each-index c.loop-each.invariant (omega arith)
