use Rattle.std.proofs.Common.{refl}
use Rattle.isa_table.specs.Decoded.{decoded}
use Rattle.hart_step.specs.Step.{stepped}
use Rattle.hart_step.proofs.examples.loads_in_examples.Goals as goal

pub returns-clause-sign : goal.returns-clause-sign
unfolding stepped decoded
returns-clause-sign c = refl

pub returns-clause-unmapped : goal.returns-clause-unmapped
unfolding stepped decoded
returns-clause-unmapped c = refl

pub returns-clause-illegal : goal.returns-clause-illegal
unfolding stepped decoded
returns-clause-illegal c = refl
