use Rattle.object_adopt.proofs.Four.{made_agrees, made_bounded, made_ends}
use Rattle.object_adopt.proofs.rounds.rounds_image.Goals as goal

pub returns-clause-agreed : goal.returns-clause-agreed
returns-clause-agreed g c = made_agrees c.in_ok-image.image c.in_ok-image.ensures

pub returns-clause-ended : goal.returns-clause-ended
returns-clause-ended g c = made_ends c.in_ok-image.image c.in_ok-image.ensures

pub returns-clause-bounded : goal.returns-clause-bounded
returns-clause-bounded g c = made_bounded c.in_ok-image.image c.in_ok-image.ensures
