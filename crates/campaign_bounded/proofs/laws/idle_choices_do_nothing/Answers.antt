use Rattle.campaign_bounded.proofs.BoundedLemmas.{run_steps, steps_are, steps_fewer}
use Rattle.campaign_bounded.proofs.laws.idle_choices_do_nothing.Goals as goal

pub returns-clause-steps : goal.returns-clause-steps
returns-clause-steps c = steps_are

pub returns-clause-fewer : goal.returns-clause-fewer
returns-clause-fewer c = steps_fewer

pub returns-clause-same : goal.returns-clause-same
returns-clause-same c = run_steps
