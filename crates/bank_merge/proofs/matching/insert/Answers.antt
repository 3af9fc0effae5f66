use Rattle.bank_merge.proofs.SetLemmas.{one_in}
use Rattle.bank_merge.proofs.matching.insert.Goals as goal

pub returns : goal.returns
returns g c = λ a. one_in _ _ c.args.access.now a (c.in-Ok.ensures.updates.0 a)
