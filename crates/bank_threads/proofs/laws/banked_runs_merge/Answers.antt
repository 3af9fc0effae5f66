use Rattle.bank_threads.proofs.RunLemmas.{memory_alone}
use Rattle.bank_threads.proofs.laws.banked_runs_merge.Goals as goal

pub returns : goal.returns
returns c = memory_alone
