use Rattle.sched_draw.proofs.PriorityLemmas.{order-length, order-each, order-there}
use Rattle.sched_draw.proofs.laws.each_hart_has_a_place.Goals as goal

pub returns : goal.returns
returns c = record {
  count = λ harts depth steps seed. order-length harts depth steps seed;
  each = λ harts depth steps seed hart below. order-each harts depth steps seed hart below;
  there = λ harts depth steps seed. order-there harts depth steps seed;
}
