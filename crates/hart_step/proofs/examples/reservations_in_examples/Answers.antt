use Rattle.std.proofs.Common.{refl}
use Rattle.isa_table.specs.Decoded.{decoded}
use Rattle.hart_step.specs.Step.{stepped}
use Rattle.hart_step.proofs.examples.reservations_in_examples.Goals as goal

pub returns-clause-ended : goal.returns-clause-ended
unfolding stepped decoded
returns-clause-ended c = refl

pub returns-clause-memory_kept : goal.returns-clause-memory_kept
unfolding stepped decoded
returns-clause-memory_kept c = refl

pub returns-clause-next_word : goal.returns-clause-next_word
unfolding stepped decoded
returns-clause-next_word c = refl

pub returns-clause-own : goal.returns-clause-own
unfolding stepped decoded
returns-clause-own c = refl

pub returns-clause-stored : goal.returns-clause-stored
unfolding stepped decoded
returns-clause-stored c = refl
