use Rattle.run_hangs.proofs.StepLemmas.{harts_stay}
use Rattle.run_hangs.proofs.going_on.go_on.Goals as goal

pub returns-clause-there : goal.returns-clause-there
returns-clause-there g c = harts_stay _ _ _ _ c.in_ok-run_schedule.ensures.0 c.requires.there
