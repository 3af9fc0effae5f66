use Rattle.object_adopt.proofs.Texts.{adopt_has, rounds_has}
use Rattle.object_adopt.proofs.passage.images_have_objects.Goals as goal

pub returns-clause-one : goal.returns-clause-one
returns-clause-one c = adopt_has

pub returns-clause-four : goal.returns-clause-four
returns-clause-four c = rounds_has
