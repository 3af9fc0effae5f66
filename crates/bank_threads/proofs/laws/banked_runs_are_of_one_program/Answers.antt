use Rattle.bank_threads.proofs.RunLemmas.{are_of_one}
use Rattle.bank_threads.proofs.laws.banked_runs_are_of_one_program.Goals as goal

pub returns : goal.returns
returns c = are_of_one
