use Rattle.std.specs.Prelude.{◌-◌}
use Rattle.bank_worker.specs.Worked.{IsWorking}
use Rattle.bank_worker.proofs.worker.work.Given as goal

-- what the thread has logged so far
abbrev pub invariant-choices : goal.invariant-choices
invariant-choices g l = IsWorking l.job.image.now l.hart l.job.budget l.job.plan.now.keys l.log l.made

abbrev pub decreases-choices : goal.decreases-choices
decreases-choices g l = l.job.budget - l.made
