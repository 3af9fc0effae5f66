use Rattle.bank_laws.proofs.MergedLemmas.{one_run}
use Rattle.bank_laws.proofs.runs.matching_logs_are_one_run.Goals as goal

pub returns : goal.returns
returns c = one_run
