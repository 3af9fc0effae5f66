use Rattle.machine.proofs.StoppedLemmas.{run-stopped}
use Rattle.sched_draw.proofs.laws.nothing_changes_once_all_have_stopped.Goals as goal

pub returns : goal.returns
returns c = record {
  stopped = λ world choices each. run-stopped world choices each;
  all = λ world choices none. run-stopped world choices (λ i choice below. none _);
}
