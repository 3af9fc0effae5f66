use Rattle.gdb_frames.proofs.FrameLemmas.{escaped_data}
use Rattle.gdb_frames.proofs.laws.escaped_is_data.Goals as goal

pub returns : goal.returns
returns c = escaped_data
