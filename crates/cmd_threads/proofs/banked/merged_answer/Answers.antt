use Rattle.std.proofs.Common.{map, ap, ◌∙◌}
use Rattle.hart_step.specs.Hart.{hart_of}
use Rattle.history.specs.Plain.{plain_entry}
use Rattle.cmd_threads.specs.BankedAnswer.{text_for}
use Rattle.cmd_threads.proofs.RunLemmas.{are_of_one, stamps_rise}
use Rattle.cmd_threads.proofs.AnswerLemmas.{of_run, seen_lines}
use Rattle.cmd_threads.proofs.banked.merged_answer.Goals as goal

pub merge_matched-requires-clause-one : goal.merge_matched-requires-clause-one
merge_matched-requires-clause-one g c =
    are_of_one c.args.image.now c.args.task.now.inputs.items c.args.task.now.budget c.args.task.now.plan.keys c.args.logs.now c.args.banks.now c.requires

pub merge_matched-requires-clause-rising : goal.merge_matched-requires-clause-rising
merge_matched-requires-clause-rising g c =
    stamps_rise c.args.image.now c.args.task.now.inputs.items c.args.task.now.budget c.args.task.now.plan.keys c.args.logs.now c.args.banks.now c.requires

pub returns : goal.returns
returns g c =
    let task = c.args.task.now in
    let choices = c.in_ok-choices.choices.items in
    let harts = map hart_of c.deref-3.result.now in
    let merged = c.in_ok-choices.ensures in
    of_run c.args.image.now task.inputs.items task.budget task.plan.keys c.args.logs.now c.args.banks.now c.requires choices task.expect c.args.history harts c.in_ok-answer.answer
    c.requires.matched merged.merged merged.ends
    (c.in_ok-answer.ensures.history ∙ ap (λ cs. text_for c.args.history (map plain_entry cs)) c.deref-2.ensures.value)
    (ap (λ hs. map hart_of hs) c.deref-3.ensures.value ∙ c.in_ok-harts.ensures)
    (seen_lines task.expect task.inputs.items c.deref.result.now choices c.deref-2.result.now harts _ c.deref.ensures.value c.deref-2.ensures.value c.in_ok-answer.ensures.lines)
