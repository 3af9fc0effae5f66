use Rattle.gdb_frames.proofs.FrameLemmas.{unescaped-escaped}
use Rattle.gdb_frames.proofs.laws.escapes_are_undone.Goals as goal

pub returns : goal.returns
returns c = unescaped-escaped
