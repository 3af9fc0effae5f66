use Rattle.sched_draw.proofs.PriorityLemmas.{never_waits}
use Rattle.sched_draw.proofs.laws.a_stopped_hart_waits.Goals as goal

pub returns : goal.returns
returns c = λ world refusals depth places steps seed. never_waits world refusals depth places steps seed
