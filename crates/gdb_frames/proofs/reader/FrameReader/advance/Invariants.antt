use Rattle.std.proofs.Common.{None}
use Rattle.gdb_frames.specs.Items.{Advances}
use Rattle.gdb_frames.proofs.reader.FrameReader.advance.Given as goal

abbrev pub invariant-bytes : goal.invariant-bytes
invariant-bytes g l = Advances l.initial.self l.self l.bytes l.index None
