use Rattle.std.proofs.Common.{refl}
use Rattle.isa_table.specs.Decoded.{decoded}
use Rattle.hart_step.specs.Step.{stepped}
use Rattle.hart_step.proofs.examples.atomics_in_examples.Goals as goal

pub returns-clause-amomin : goal.returns-clause-amomin
unfolding stepped decoded
returns-clause-amomin c = refl

pub returns-clause-amomin_rd : goal.returns-clause-amomin_rd
unfolding stepped decoded
returns-clause-amomin_rd c = refl

pub returns-clause-amominu : goal.returns-clause-amominu
unfolding stepped decoded
returns-clause-amominu c = refl

pub returns-clause-amominu_rd : goal.returns-clause-amominu_rd
unfolding stepped decoded
returns-clause-amominu_rd c = refl
