use Rattle.sched_draw.proofs.BurstLemmas.{of_one_hart}
use Rattle.sched_draw.proofs.laws.a_burst_is_of_one_hart.Goals as goal

pub returns : goal.returns
returns c = λ steps d few. of_one_hart steps d few
