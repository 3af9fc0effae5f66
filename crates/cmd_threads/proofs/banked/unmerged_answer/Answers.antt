use Rattle.std.proofs.Common.{map, ap, ◌∙◌}
use Rattle.hart_step.specs.Hart.{hart_of}
use Rattle.cmd_threads.specs.BankedAnswer.{unruled}
use Rattle.cmd_threads.specs.declared.history_use.HistoryUse.TheVariants.{Unread}
use Rattle.cmd_threads.proofs.RunLemmas.{are_of_one, stamps_rise}
use Rattle.cmd_threads.proofs.AnswerLemmas.{of_run}
use Rattle.cmd_threads.proofs.banked.unmerged_answer.Goals as goal

pub logs_are_one_run-requires-clause-one : goal.logs_are_one_run-requires-clause-one
logs_are_one_run-requires-clause-one g c =
    are_of_one c.args.image.now c.args.task.now.inputs.items c.args.task.now.budget c.args.task.now.plan.keys c.args.logs.now c.args.banks.now c.requires

pub logs_are_one_run-requires-clause-rising : goal.logs_are_one_run-requires-clause-rising
logs_are_one_run-requires-clause-rising g c =
    stamps_rise c.args.image.now c.args.task.now.inputs.items c.args.task.now.budget c.args.task.now.plan.keys c.args.logs.now c.args.banks.now c.requires

pub returns : goal.returns
returns g c =
    let task = c.args.task.now in
    let run = c.logs_are_one_run.ensures in
    of_run c.args.image.now task.inputs.items task.budget task.plan.keys c.args.logs.now c.args.banks.now c.requires run.choices (unruled task.expect.exit) Unread (map hart_of c.deref-2.result.now) c.in_ok-answer.answer
    c.requires.matched run.merged run.ends c.in_ok-answer.ensures.history
    (ap (λ hs. map hart_of hs) c.deref-2.ensures.value ∙ c.in_ok-harts.ensures)
    c.in_ok-answer.ensures.lines
