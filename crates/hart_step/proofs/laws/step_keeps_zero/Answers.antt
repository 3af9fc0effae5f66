use Rattle.hart_step.proofs.HartLemmas.{stepped-zero}
use Rattle.hart_step.proofs.laws.step_keeps_zero.Goals as goal

pub returns : goal.returns
returns c = stepped-zero
