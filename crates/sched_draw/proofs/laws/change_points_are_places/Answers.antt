use Rattle.sched_draw.proofs.PriorityLemmas.{points-length, points-in-run, points-within-first}
use Rattle.sched_draw.proofs.laws.change_points_are_places.Goals as goal

pub returns : goal.returns
returns c = record {
  count = λ harts depth places seed. points-length harts depth places seed;
  there = λ points harts depth steps seed some. points-in-run points harts depth steps seed some;
  within = λ first harts depth steps seed some. points-within-first first harts depth steps seed some;
}
