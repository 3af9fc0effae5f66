use Rattle.sched_draw.proofs.BurstLemmas.{begins_there, begins_some, begins_most}
use Rattle.sched_draw.proofs.laws.a_burst_begins_within_its_bounds.Goals as goal

pub returns : goal.returns
returns c = record {
  there = λ d some. begins_there d some;
  some = λ d. begins_some d;
  most = λ d some. begins_most d some;
}
