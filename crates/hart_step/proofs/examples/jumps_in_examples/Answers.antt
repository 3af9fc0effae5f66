use Rattle.std.proofs.Common.{refl}
use Rattle.isa_table.specs.Decoded.{decoded}
use Rattle.hart_step.specs.Step.{stepped}
use Rattle.hart_step.proofs.examples.jumps_in_examples.Goals as goal

pub returns-clause-target : goal.returns-clause-target
unfolding stepped decoded
returns-clause-target c = refl

pub returns-clause-link : goal.returns-clause-link
unfolding stepped decoded
returns-clause-link c = refl

pub returns-clause-taken : goal.returns-clause-taken
unfolding stepped decoded
returns-clause-taken c = refl

pub returns-clause-kept : goal.returns-clause-kept
unfolding stepped decoded
returns-clause-kept c = refl

pub returns-clause-untaken_state : goal.returns-clause-untaken_state
unfolding stepped decoded
returns-clause-untaken_state c = refl

pub returns-clause-untaken : goal.returns-clause-untaken
unfolding stepped decoded
returns-clause-untaken c = refl
