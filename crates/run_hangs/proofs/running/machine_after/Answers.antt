use Rattle.run_hangs.proofs.StepLemmas.{harts_stay}
use Rattle.run_hangs.proofs.running.machine_after.Goals as goal

pub returns-clause-harts : goal.returns-clause-harts
returns-clause-harts g c = harts_stay _ _ _ _ c.take_steps.ensures c.in_ok-machine.ensures.harts
