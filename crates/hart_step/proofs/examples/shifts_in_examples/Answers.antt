use Rattle.std.proofs.Common.{refl}
use Rattle.isa_table.specs.Decoded.{decoded}
use Rattle.hart_step.specs.Step.{stepped}
use Rattle.hart_step.proofs.examples.shifts_in_examples.Goals as goal

pub returns-clause-sra : goal.returns-clause-sra
unfolding stepped decoded
returns-clause-sra c = refl

pub returns-clause-sll : goal.returns-clause-sll
unfolding stepped decoded
returns-clause-sll c = refl
