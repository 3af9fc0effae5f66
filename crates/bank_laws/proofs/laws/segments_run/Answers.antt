use Rattle.bank_laws.proofs.RunLemmas.{segments_run}
use Rattle.bank_laws.proofs.laws.segments_run.Goals as goal

pub returns : goal.returns
returns g c = λ bank_of T es. segments_run bank_of T es
