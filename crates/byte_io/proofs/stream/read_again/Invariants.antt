use Rattle.std.proofs.Common.{◌≡◌, length}
use Rattle.std.specs.Io.KnownBytes.{Keeps}
use Rattle.byte_io.proofs.stream.read_again.Given as goal

-- the piece keeps its length, and a call that was interrupted has taken nothing
abbrev pub invariant-calls : goal.invariant-calls
invariant-calls g l = (length l.piece ≡ length l.initial.piece) × Keeps (g.R.Read.remaining l.initial.reader) (g.R.Read.remaining l.reader)
