use Rattle.bank_laws.proofs.MergeLemmas.{logs_merge}
use Rattle.bank_laws.proofs.laws.logs_merge.Goals as goal

pub returns : goal.returns
returns g c = λ bank_of T. logs_merge bank_of T
