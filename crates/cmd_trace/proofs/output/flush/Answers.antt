use Rattle.std.proofs.Common.{ℕ, List, take, subst}
use Rattle.std.specs.Io.KnownBytes.{Appends}
use Rattle.cmd_trace.proofs.OutputLemmas.{sent_more, sent_some}
use Rattle.cmd_trace.proofs.output.flush.Goals as goal

pub returns-in-Ok-clause-sent : goal.returns-in-Ok-clause-sent
returns-in-Ok-clause-sent g c all start rest s =
    sent_more all c.args.buffer.now.items c.clear.new.self.items rest start (g.K.Sink.held c.args.sink.now) (g.K.Sink.held c.write_all.new.sink)
    (subst (λ (bytes : List ℕ). Appends (g.K.Sink.held c.args.sink.now) (g.K.Sink.held c.write_all.new.sink) bytes) c.deref.ensures.value c.in-Ok.ensures.ok)
    c.clear.ensures.items s

pub returns-in-Err-clause-begun : goal.returns-in-Err-clause-begun
returns-in-Err-clause-begun g c all start rest s =
    let some = c.in-Err.ensures.err in
    sent_some all c.args.buffer.now.items rest start (g.K.Sink.held c.args.sink.now) (g.K.Sink.held c.write_all.new.sink) some.0
    (subst (λ (bytes : List ℕ). Appends (g.K.Sink.held c.args.sink.now) (g.K.Sink.held c.write_all.new.sink) (take some.0 bytes)) c.deref.ensures.value some.1)
    s
