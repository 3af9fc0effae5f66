use Rattle.object_consensus.proofs.AmoRace.{add_made, add_made_bounded}
use Rattle.object_consensus.proofs.amo.add_image.Goals as goal

pub returns-clause-agreed : goal.returns-clause-agreed
returns-clause-agreed g c = (add_made c.in_ok-image.image c.in_ok-image.ensures).0

pub returns-clause-ended : goal.returns-clause-ended
returns-clause-ended g c = (add_made c.in_ok-image.image c.in_ok-image.ensures).1

pub returns-clause-bounded : goal.returns-clause-bounded
returns-clause-bounded g c = add_made_bounded c.in_ok-image.image c.in_ok-image.ensures
