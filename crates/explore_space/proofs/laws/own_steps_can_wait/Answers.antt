use Rattle.explore_space.proofs.HabitLemmas.{habits_wait}
use Rattle.explore_space.proofs.laws.own_steps_can_wait.Goals as goal

pub returns : goal.returns
returns c = habits_wait
