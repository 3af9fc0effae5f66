use Rattle.debug_session.specs.Session.{session}
use Rattle.cmd_gdb.specs.Serving.{standing_of}
use Rattle.cmd_gdb.proofs.OpeningLemmas.{begins, served}
use Rattle.cmd_gdb.proofs.engine.gdb_engine.Goals as goal

pub returns-in-Ok-serve-clause-done : goal.returns-in-Ok-serve-clause-done
returns-in-Ok-serve-clause-done g c =
    served c.args.inputs.now _ c.in-Ok.run'.image c.in-Ok.run'.choices.items
    (session c.in-Ok-open_session.debugger) (standing_of c.new-server.result) _ _
    (g.S.Source.left c.args.packets.now) (g.K.Sink.held c.args.sink.now)
    (g.K.Sink.held c.serve.new.sink) c.in-Ok.ensures.opened c.in-Ok-open_session.ensures
    c.in-Ok.ensures.inputs.0 c.new-server.ensures c.in-Ok-serve.ensures.done

pub returns-in-Err-Read-clause-begun : goal.returns-in-Err-Read-clause-begun
returns-in-Err-Read-clause-begun g c =
    begins c.args.inputs.now _ c.in-Ok.run'.image c.in-Ok.run'.choices.items
    (session c.in-Ok-open_session.debugger) (standing_of c.new-server.result) _ _
    (g.S.Source.left c.args.packets.now) (g.K.Sink.held c.args.sink.now)
    (g.K.Sink.held c.serve.new.sink) c.in-Ok.ensures.opened c.in-Ok-open_session.ensures
    c.in-Ok.ensures.inputs.0 c.new-server.ensures c.in-Err-Read.ensures.begun

pub returns-in-Err-Write-clause-begun : goal.returns-in-Err-Write-clause-begun
returns-in-Err-Write-clause-begun g c =
    begins c.args.inputs.now _ c.in-Ok.run'.image c.in-Ok.run'.choices.items
    (session c.in-Ok-open_session.debugger) (standing_of c.new-server.result) _ _
    (g.S.Source.left c.args.packets.now) (g.K.Sink.held c.args.sink.now)
    (g.K.Sink.held c.serve.new.sink) c.in-Ok.ensures.opened c.in-Ok-open_session.ensures
    c.in-Ok.ensures.inputs.0 c.new-server.ensures c.in-Err-Write.ensures.begun

pub returns-clause-begun : goal.returns-clause-begun
returns-clause-begun g c =
    begins c.args.inputs.now _ c.in-Ok.run'.image c.in-Ok.run'.choices.items
    (session c.in-Ok-open_session.debugger) (standing_of c.new-server.result) _ _
    (g.S.Source.left c.args.packets.now) (g.K.Sink.held c.args.sink.now)
    (g.K.Sink.held c.serve.new.sink) c.in-Ok.ensures.opened c.in-Ok-open_session.ensures
    c.in-Ok.ensures.inputs.0 c.new-server.ensures c.in-Err-Memory.ensures.begun
