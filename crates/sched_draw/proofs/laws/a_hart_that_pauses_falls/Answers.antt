use Rattle.sched_draw.proofs.PriorityLemmas.{falls_since_it_pauses, gives_way}
use Rattle.sched_draw.proofs.laws.a_hart_that_pauses_falls.Goals as goal

pub returns : goal.returns
returns c = record {
  falls = λ refusals place other world later d does has differs going.
      falls_since_it_pauses refusals place other world later d does has differs going;
  run = λ world refusals depth places steps seed. gives_way world refusals depth places steps seed;
}
