use Rattle.std.specs.Io.KnownBytes.{Keeps}
use Rattle.byte_io.proofs.stream.write_again.Given as goal

-- a call that was interrupted has written nothing
abbrev pub invariant-calls : goal.invariant-calls
invariant-calls g l = Keeps (g.W.Write.contents l.initial.writer) (g.W.Write.contents l.writer)
