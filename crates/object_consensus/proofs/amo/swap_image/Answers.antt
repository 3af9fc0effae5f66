use Rattle.object_consensus.proofs.AmoRace.{swap_made, swap_made_bounded}
use Rattle.object_consensus.proofs.amo.swap_image.Goals as goal

pub returns-clause-agreed : goal.returns-clause-agreed
returns-clause-agreed g c = (swap_made c.in_ok-image.image c.in_ok-image.ensures).0

pub returns-clause-ended : goal.returns-clause-ended
returns-clause-ended g c = (swap_made c.in_ok-image.image c.in_ok-image.ensures).1

pub returns-clause-bounded : goal.returns-clause-bounded
returns-clause-bounded g c = swap_made_bounded c.in_ok-image.image c.in_ok-image.ensures
