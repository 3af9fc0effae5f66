use Rattle.std.proofs.Common.{◌^◌, ◌<◌, arith, map, ap, subst, ◌∙◌}
use Rattle.std.specs.List.{All}
use Rattle.hart_step.specs.Hart.{hart_of}
use Rattle.machine.specs.Start.{IsStartable}
use Rattle.machine.specs.State.{state}
use Rattle.history.specs.Printing.{history_text}
use Rattle.thread_run.specs.Outcome.{IsOutcome}
use Rattle.cmd_threads.proofs.ThreadsLemmas.{answered, kept_of, printed_of, replays_known}
use Rattle.cmd_threads.proofs.threads.threads_engine.Goals as goal

pub returns-in-Ok-shown_after-clause-answer : goal.returns-in-Ok-shown_after-clause-answer
returns-in-Ok-shown_after-clause-answer g c =
    let image = c.in-Ok.image in
    let task = c.args.task in
    let book = c.in-Ok-run_threads.outcome.book in
    let same = c.in-Ok-new.ensures.same.0 ∙ c.deref.ensures.value in
    let outcome = subst (λ xs. IsOutcome image xs task.budget c.args.total task.plan.keys book) same c.in-Ok-run_threads.ensures.ended in
    answered image task.inputs.items task.budget c.args.total task.plan.keys book outcome _ _ c.in-Ok.ensures.ok
    (c.in-Ok-print_history.ensures.text ∙ ap history_text c.history.ensures)

pub returns-in-Ok-shown_after-clause-certified : goal.returns-in-Ok-shown_after-clause-certified
returns-in-Ok-shown_after-clause-certified g c =
    let image = c.in-Ok.image in
    let task = c.args.task in
    let book = c.in-Ok-run_threads.outcome.book in
    let same = c.in-Ok-new.ensures.same.0 ∙ c.deref.ensures.value in
    let outcome = subst (λ xs. IsOutcome image xs task.budget c.args.total task.plan.keys book) same c.in-Ok-run_threads.ensures.ended in
    let prints = printed_of image task.inputs.items task.budget c.args.total task.plan.keys book outcome task.expect c.words.result.now c.history-2.result.now
    (map hart_of c.ends.result.now) (state c.machine.result.now) _ (c.words.ensures.same ∙ c.inputs.ensures) c.history-2.ensures c.ends.ensures c.machine.ensures
    c.in-Ok-shown_after.ensures in
    kept_of image task.inputs.items task.budget c.args.total task.plan.keys book outcome _ task.expect _
    (subst (λ xs. All (λ x. x < 2 ^ 32) xs) c.deref.ensures.value c.in-Ok-new.ensures.words) c.in-Ok.ensures.ok prints

pub returns-in-Ok-shown_after-clause-replays : goal.returns-in-Ok-shown_after-clause-replays
returns-in-Ok-shown_after-clause-replays g c =
    let image = c.in-Ok.image in
    let task = c.args.task in
    let book = c.in-Ok-run_threads.outcome.book in
    let same = c.in-Ok-new.ensures.same.0 ∙ c.deref.ensures.value in
    let outcome = subst (λ xs. IsOutcome image xs task.budget c.args.total task.plan.keys book) same c.in-Ok-run_threads.ensures.ended in
    let prints = printed_of image task.inputs.items task.budget c.args.total task.plan.keys book outcome task.expect c.words.result.now c.history-2.result.now
    (map hart_of c.ends.result.now) (state c.machine.result.now) _ (c.words.ensures.same ∙ c.inputs.ensures) c.history-2.ensures c.ends.ensures c.machine.ensures
    c.in-Ok-shown_after.ensures in
    let word : task.budget < 2 ^ 32 = omega arith in
    replays_known image task.inputs.items task.budget c.args.total task.plan.keys book outcome _ task.expect _ _
    (subst (λ xs. IsStartable xs) c.deref.ensures.value c.in-Ok-new.ensures.same.1) word c.in-Ok.ensures.ok
    (c.in-Ok-print_history.ensures.text ∙ ap history_text c.history.ensures) prints
