use Rattle.machine.proofs.RunLaws.{run_length}
use Rattle.machine.proofs.laws.run_keeps_harts.Goals as goal

pub returns : goal.returns
returns c = run_length
