use Rattle.machine.proofs.WorldLemmas.{run_append}
use Rattle.machine.proofs.laws.run_goes_on.Goals as goal

pub returns : goal.returns
returns c = run_append
