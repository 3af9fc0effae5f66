use Rattle.object_adopt.proofs.Alone.{made, made_bounded}
use Rattle.object_adopt.proofs.adopt.adopt_image.Goals as goal

pub returns-clause-agreed : goal.returns-clause-agreed
returns-clause-agreed g c = (made c.in_ok-image.image c.in_ok-image.ensures).0

pub returns-clause-ended : goal.returns-clause-ended
returns-clause-ended g c = (made c.in_ok-image.image c.in_ok-image.ensures).1

pub returns-clause-bounded : goal.returns-clause-bounded
returns-clause-bounded g c = made_bounded c.in_ok-image.image c.in_ok-image.ensures
