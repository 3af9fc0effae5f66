use Rattle.hart_step.proofs.Kept.{stepped-keeps}
use Rattle.hart_step.proofs.laws.step_keeps_unwritable.Goals as goal

pub returns : goal.returns
returns c = stepped-keeps
