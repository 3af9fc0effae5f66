use Rattle.hart_step.proofs.HartLemmas.{stepped-aligned}
use Rattle.hart_step.proofs.laws.step_keeps_alignment.Goals as goal

pub returns : goal.returns
returns c = stepped-aligned
