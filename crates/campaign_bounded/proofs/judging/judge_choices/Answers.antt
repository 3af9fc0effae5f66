use Rattle.std.proofs.Common.{rules, arith, false}
use Rattle.machine.specs.Machine.{world}
use Rattle.campaign_bounded.proofs.JudgeLemmas.{judged_none, judged_before, judged_last}
use Rattle.campaign_bounded.proofs.judging.judge_choices.Goals as goal

pub choices-init : goal.choices-init
choices-init g c = judged_none (world g.S.Store.memory c.args.machine.now) c.args.choices.now c.args.judged.now

pub choices-preserved : goal.choices-preserved
choices-preserved g c =
    judged_before c.choices.done _ (world g.S.Store.memory c.choices.machine) (world g.S.Store.memory c.take_step.new.machine) c.args.choices.now
    (record { hart = 0; refuse = false }) _ _ _ (omega arith) (search rules) c.judge_world.ensures c.choices.invariant

pub returns : goal.returns
returns g c =
    judged_last c.choices.done _ (world g.S.Store.memory c.choices.machine) c.args.choices.now _ _ _
    (omega (arith, c.choices-test.false, c.choices.auto.done-end)) c.judge_world-2.ensures c.choices.invariant
