use Rattle.bank_merge.specs.Logs.{IsBankOf}
use Rattle.bank_threads.proofs.ListLemmas.{Below}
use Rattle.bank_threads.proofs.compare.are_of_banks.Given as goal

abbrev pub invariant-banks : goal.invariant-banks
invariant-banks g l = Below (IsBankOf l.image l.inputs) l.banks l.b
