use Rattle.machine.proofs.RunLaws.{run-aligned}
use Rattle.machine.proofs.laws.run_keeps_alignment.Goals as goal

pub returns : goal.returns
returns c = run-aligned
