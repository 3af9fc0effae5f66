use Rattle.debug_session.specs.Session.{session}
use Rattle.cmd_debug.specs.Opening.{Answers, BeginsToAnswer}
use Rattle.std.proofs.Common.{◌∙◌}
use Rattle.cmd_debug.proofs.OpeningLemmas.{in_named_session, same_inputs}
use Rattle.cmd_debug.proofs.engine.debug_engine.Goals as goal

pub returns-in-Ok-talk-clause-done : goal.returns-in-Ok-talk-clause-done
returns-in-Ok-talk-clause-done g c =
    in_named_session (λ names r xs. Answers names r xs (g.K.Sink.held c.args.sink.now) (g.K.Sink.held c.talk.new.sink))
    c.args.inputs.now _ _ c.in-Ok.named.symbols.items c.deref.result.now (session c.in-Ok-open_session.debugger) _ _ (g.S.Source.left c.args.commands.now)
    c.in-Ok.ensures.opened c.in-Ok.ensures.symbols c.deref.ensures.value (c.in-Ok-open_session.ensures ∙ same_inputs c.in-Ok.named.opened.image _ _ c.in-Ok.named.opened.choices.items c.in-Ok.ensures.inputs) c.in-Ok-talk.ensures.done

pub returns-in-Err-Read-clause-begun : goal.returns-in-Err-Read-clause-begun
returns-in-Err-Read-clause-begun g c =
    in_named_session (λ names r xs. BeginsToAnswer names r xs (g.K.Sink.held c.args.sink.now) (g.K.Sink.held c.talk.new.sink))
    c.args.inputs.now _ _ c.in-Ok.named.symbols.items c.deref.result.now (session c.in-Ok-open_session.debugger) _ _ (g.S.Source.left c.args.commands.now)
    c.in-Ok.ensures.opened c.in-Ok.ensures.symbols c.deref.ensures.value (c.in-Ok-open_session.ensures ∙ same_inputs c.in-Ok.named.opened.image _ _ c.in-Ok.named.opened.choices.items c.in-Ok.ensures.inputs) c.in-Err-Read.ensures.begun

pub returns-in-Err-Write-clause-begun : goal.returns-in-Err-Write-clause-begun
returns-in-Err-Write-clause-begun g c =
    in_named_session (λ names r xs. BeginsToAnswer names r xs (g.K.Sink.held c.args.sink.now) (g.K.Sink.held c.talk.new.sink))
    c.args.inputs.now _ _ c.in-Ok.named.symbols.items c.deref.result.now (session c.in-Ok-open_session.debugger) _ _ (g.S.Source.left c.args.commands.now)
    c.in-Ok.ensures.opened c.in-Ok.ensures.symbols c.deref.ensures.value (c.in-Ok-open_session.ensures ∙ same_inputs c.in-Ok.named.opened.image _ _ c.in-Ok.named.opened.choices.items c.in-Ok.ensures.inputs) c.in-Err-Write.ensures.begun

pub returns-clause-begun : goal.returns-clause-begun
returns-clause-begun g c =
    in_named_session (λ names r xs. BeginsToAnswer names r xs (g.K.Sink.held c.args.sink.now) (g.K.Sink.held c.talk.new.sink))
    c.args.inputs.now _ _ c.in-Ok.named.symbols.items c.deref.result.now (session c.in-Ok-open_session.debugger) _ _ (g.S.Source.left c.args.commands.now)
    c.in-Ok.ensures.opened c.in-Ok.ensures.symbols c.deref.ensures.value (c.in-Ok-open_session.ensures ∙ same_inputs c.in-Ok.named.opened.image _ _ c.in-Ok.named.opened.choices.items c.in-Ok.ensures.inputs) c.in-Err-Memory.ensures.begun
