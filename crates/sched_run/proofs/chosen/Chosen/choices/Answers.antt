use Rattle.std.proofs.Common.{ap, ◌∙◌, arith}
use Rattle.machine.specs.Chosen.{is_chosen}
use Rattle.sched_run.proofs.ChosenLemmas.{none_yet, one_more_mark, all_marked}
use Rattle.sched_run.proofs.chosen.Chosen.choices.Goals as goal

pub harts-init : goal.harts-init
harts-init g c = λ k. ap (λ cs. is_chosen cs k) c.new-choices.ensures.items ∙ none_yet c.args.self.now.marks k

pub harts-preserved : goal.harts-preserved
harts-preserved g c =
    one_more_mark c.args.self.now.marks c.harts.hart _ c.harts.choices.items c.push_marked.new.choices.items
    (omega (arith, c.harts-test.true)) c.in_ok-push_marked.ensures c.harts.invariant

pub returns : goal.returns
returns g c = all_marked c.args.self.now.marks c.harts.choices.items c.harts.hart (omega (arith, c.harts-test.false)) c.harts.invariant
