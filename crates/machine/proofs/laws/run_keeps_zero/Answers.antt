use Rattle.machine.proofs.RunLaws.{run-zero}
use Rattle.machine.proofs.laws.run_keeps_zero.Goals as goal

pub returns : goal.returns
returns c = run-zero
