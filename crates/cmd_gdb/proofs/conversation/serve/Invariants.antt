use Rattle.std.proofs.Common.{◌≡◌}
use Rattle.cmd_gdb.specs.Serving.{standing_of}
use Rattle.cmd_gdb.proofs.ConversationLemmas.{IsServed}
use Rattle.cmd_gdb.proofs.conversation.serve.Given as goal

abbrev pub invariant-packets : goal.invariant-packets
invariant-packets g l =
    IsServed (standing_of l.initial.server) (g.S.Source.left l.initial.source)
    (g.S.Source.left l.source) (g.K.Sink.held l.initial.sink) (g.K.Sink.held l.sink)
    (standing_of l.server) l.reader
    × (g.S.Source.failures l.source ≡ g.S.Source.failures l.initial.source)
    × (g.K.Sink.failures l.sink ≡ g.K.Sink.failures l.initial.sink)

abbrev pub decreases-packets : goal.decreases-packets
decreases-packets g l = g.S.Source.room l.source
