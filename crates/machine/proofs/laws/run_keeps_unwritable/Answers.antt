use Rattle.machine.proofs.RunLaws.{run-keeps}
use Rattle.machine.proofs.laws.run_keeps_unwritable.Goals as goal

pub returns : goal.returns
returns c = run-keeps
