use Rattle.gdb_frames.proofs.FrameLemmas.{framed_read}
use Rattle.gdb_frames.proofs.laws.framed_is_read.Goals as goal

pub returns : goal.returns
returns c = framed_read
