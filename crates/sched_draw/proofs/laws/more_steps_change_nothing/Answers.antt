use Rattle.sched_draw.proofs.PriorityLemmas.{more-steps}
use Rattle.sched_draw.proofs.laws.more_steps_change_nothing.Goals as goal

pub returns : goal.returns
returns c = λ first world refusals harts depth steps more seed few. more-steps first world refusals harts depth steps more seed few
