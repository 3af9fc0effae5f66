use Rattle.std.proofs.Common.{◌^◌, ◌<◌, subst}
use Rattle.std.specs.List.{All}
use Rattle.machine.specs.Start.{IsStartable}
use Rattle.cmd_threads.proofs.AnswerLemmas.{answered, kept_of, replays_known}
use Rattle.cmd_threads.proofs.banked.banked_engine.Goals as goal

pub returns-in-Ok-answer_of_logs-clause-certified : goal.returns-in-Ok-answer_of_logs-clause-certified
returns-in-Ok-answer_of_logs-clause-certified g c =
    let task = c.args.task in
    kept_of _ task.inputs.items task.budget task.plan.keys _ task.expect c.args.history c.in-Ok-answer_of_logs.answer
    (subst (λ xs. All (λ x. x < 2 ^ 32) xs) c.deref.ensures.value c.in-Ok-new.ensures.words) c.in-Ok.ensures.ok c.in-Ok-answer_of_logs.ensures

pub returns-in-Ok-answer_of_logs-clause-answer : goal.returns-in-Ok-answer_of_logs-clause-answer
returns-in-Ok-answer_of_logs-clause-answer g c =
    let task = c.args.task in
    answered _ task.inputs.items task.budget task.plan.keys _ task.expect c.args.history c.in-Ok-answer_of_logs.answer
    c.in-Ok.ensures.ok c.in-Ok-answer_of_logs.ensures

pub returns-in-Ok-answer_of_logs-clause-replays : goal.returns-in-Ok-answer_of_logs-clause-replays
returns-in-Ok-answer_of_logs-clause-replays g c =
    let task = c.args.task in
    replays_known _ task.inputs.items task.budget task.plan.keys _ task.expect c.args.history c.in-Ok-answer_of_logs.answer
    (subst (λ xs. IsStartable xs) c.deref.ensures.value c.in-Ok-new.ensures.same.1) c.in-Ok.ensures.ok c.in-Ok-answer_of_logs.ensures
