use Rattle.thread_run.proofs.RunningLemmas.{run_begun_as}
use Rattle.thread_run.proofs.running.Running.new.Goals as goal

pub invariant_of-result : goal.invariant_of-result
invariant_of-result g c = (
  run_begun_as _ _ _ _ _ _ _ _ _ c.requires.budget.1 c.requires.book c.requires.owned c.requires.total c.requires.tickets,
  c.requires.plan,
  c.requires.budget.0,
)
