use Rattle.bank_laws.proofs.HartLogLemmas.{stepwise_walks}
use Rattle.bank_laws.proofs.laws.stepwise_log_walks.Goals as goal

pub returns : goal.returns
returns g c = λ T. stepwise_walks T
