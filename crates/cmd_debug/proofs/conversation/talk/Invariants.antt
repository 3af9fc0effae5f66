use Rattle.std.proofs.Common.{◌≡◌}
use Rattle.debug_session.specs.Session.{session}
use Rattle.cmd_debug.proofs.TalkLemmas.{IsAnswered}
use Rattle.cmd_debug.proofs.conversation.talk.Given as goal

abbrev pub invariant-lines : goal.invariant-lines
invariant-lines g l =
    IsAnswered l.symbols (session l.initial.debugger) (g.S.Source.left l.initial.source) (g.S.Source.left l.source) (g.K.Sink.held l.initial.sink) (g.K.Sink.held l.sink) (session l.debugger)
    × (g.S.Source.failures l.source ≡ g.S.Source.failures l.initial.source)
    × (g.K.Sink.failures l.sink ≡ g.K.Sink.failures l.initial.sink)

abbrev pub decreases-lines : goal.decreases-lines
decreases-lines g l = g.S.Source.room l.source
