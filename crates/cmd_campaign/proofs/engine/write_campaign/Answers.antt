use Rattle.std.proofs.Common.{◌<◌, Err, inr, ap, sym, subst, ◌∙◌}
use Rattle.program_open.specs.CommandFaults.{IfNames}
use Rattle.cmd_campaign.proofs.AnswerLemmas.{answer_of_refused, begins_answer, done_answer, halted_unread, start_unread}
use Rattle.cmd_campaign.proofs.engine.write_campaign.Goals as goal

pub returns-in-Err-clause-refused : goal.returns-in-Err-clause-refused
returns-in-Err-clause-refused g c = λ refusal.
    answer_of_refused c.args.campaign c.args.inputs.now c.args.image.now c.in-Err.fault c.in-Err.ensures.same
    ∙ ap Err (sym c.from.ensures)

pub returns-in-Err-clause-read : goal.returns-in-Err-clause-read
returns-in-Err-clause-read g c =
    let risen = g.K.Sink.failures c.args.sink.now < g.K.Sink.failures c.args.sink.now in
    subst (λ why. IfNames why ⊥ ⊥ ⊥ risen) (sym c.from.ensures) (start_unread c.in-Err.fault ⊥ ⊥ ⊥ risen)

pub returns-clause-read : goal.returns-clause-read
returns-clause-read g c =
    halted_unread c.before.write_report.result
    (g.K.Sink.failures c.args.sink.now < g.K.Sink.failures c.write_report.new.sink) c.write_report.ensures.fault

pub returns-clause-done : goal.returns-clause-done
returns-clause-done g c =
    done_answer c.args.campaign c.args.inputs.now c.args.image.now c.in-Ok.ensures.same.1 _ _ _
    (rw c.in-Ok.ensures.same.0 at c.write_report.ensures.written) (rw c.in-Ok.ensures.same.0 at c.write_report.ensures.finished)

pub returns-clause-begun : goal.returns-clause-begun
returns-clause-begun g c = λ e.
    begins_answer c.args.campaign c.args.inputs.now c.args.image.now c.in-Ok.ensures.same.1 _ _ _ _ _
    (rw c.in-Ok.ensures.same.0 at c.write_report.ensures.begun) e

pub returns-clause-halted : goal.returns-clause-halted
returns-clause-halted g c = λ e.
    inr (begins_answer c.args.campaign c.args.inputs.now c.args.image.now c.in-Ok.ensures.same.1 _ _ _ _ _
    (rw c.in-Ok.ensures.same.0 at c.write_report.ensures.begun) e)
