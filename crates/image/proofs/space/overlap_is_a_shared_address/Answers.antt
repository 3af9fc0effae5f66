use Rattle.image.proofs.Overlap.{shared_decides}
use Rattle.image.proofs.space.overlap_is_a_shared_address.Goals as goal

pub returns : goal.returns
returns c = shared_decides
