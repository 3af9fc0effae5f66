use Rattle.cmd_shrink.proofs.FailureLemmas.{fails_so}
use Rattle.cmd_shrink.proofs.laws.failing_run_fails_so.Goals as goal

pub returns : goal.returns
returns c = λ expect properties image inputs choices how is. fails_so expect properties image inputs choices how is
