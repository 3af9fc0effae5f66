use Rattle.std.proofs.Common.{refl}
use Rattle.isa_table.specs.Decoded.{decoded}
use Rattle.hart_step.specs.Step.{stepped}
use Rattle.hart_step.proofs.examples.conditional_stores_in_examples.Goals as goal

pub returns-clause-first : goal.returns-clause-first
unfolding stepped decoded
returns-clause-first c = refl

pub returns-clause-second : goal.returns-clause-second
unfolding stepped decoded
returns-clause-second c = refl

pub returns-clause-refused : goal.returns-clause-refused
unfolding stepped decoded
returns-clause-refused c = refl

pub returns-clause-after_refusal : goal.returns-clause-after_refusal
unfolding stepped decoded
returns-clause-after_refusal c = refl

pub returns-clause-memory_kept : goal.returns-clause-memory_kept
unfolding stepped decoded
returns-clause-memory_kept c = refl
