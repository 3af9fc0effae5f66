use Rattle.sched_draw.proofs.PriorityLemmas.{falls_at_point, falls_since_it_spins}
use Rattle.sched_draw.proofs.laws.a_hart_that_falls_waits.Goals as goal

pub returns : goal.returns
returns c = record {
  point = λ refusals place other world later d there has differs going.
      falls_at_point refusals place other world later d there has differs going;
  spins = λ refusals place other world later d does has differs going.
      falls_since_it_spins refusals place other world later d does has differs going;
}
