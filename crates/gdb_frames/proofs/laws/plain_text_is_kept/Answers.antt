use Rattle.gdb_frames.proofs.FrameLemmas.{escaped-plain}
use Rattle.gdb_frames.proofs.laws.plain_text_is_kept.Goals as goal

pub returns : goal.returns
returns c = escaped-plain
