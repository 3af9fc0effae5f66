use Rattle.std.proofs.Common.{rules, arith, false}
use Rattle.machine.specs.Machine.{world}
use Rattle.machine.proofs.WorldLemmas.{run_more, run_none}
use Rattle.property_judge.proofs.RunLemmas.{judged_at_first, judged_more_choices, judged_to_the_end, judged_up_to}
use Rattle.property_judge.proofs.ReachLemmas.{same_reach}
use Rattle.property_judge.proofs.judged.judge_run.Goals as goal

pub choices-init : goal.choices-init
choices-init g c = record {
  reached = search (rules, run_none);
  harts = search rules;
  judging = judged_at_first _ c.args.choices.now c.args.judged.now _ c.judge_world.ensures;
  reach = search rules;
}

pub choices-preserved : goal.choices-preserved
choices-preserved g c = record {
  reached = search (rules, run_more);
  harts = search rules;
  judging = judged_more_choices c.choices.done _ (world g.S.Store.memory c.choices.machine) (world g.S.Store.memory c.step.new.self) c.args.choices.now
      (record { hart = 0; refuse = false }) _ _ _ _ (omega arith) (search rules) (search rules) c.judge_in_reach.ensures c.choices.invariant.judging;
  reach = search (rules, same_reach);
}

pub returns-clause-judged : goal.returns-clause-judged
returns-clause-judged g c =
    judged_to_the_end c.choices.done _ (world g.S.Store.memory c.choices.machine) c.args.choices.now _ _
    (omega (arith, c.choices-test.false, c.choices.auto.done-end)) c.choices.invariant.judging

pub returns-then-is_err-clause-judged_so_far : goal.returns-then-is_err-clause-judged_so_far
returns-then-is_err-clause-judged_so_far g c =
    judged_up_to c.choices.done _ (world g.S.Store.memory c.choices.machine) c.args.choices.now _ _ c.choices.invariant.judging
