use Rattle.bank_memory.proofs.StampLemmas.{greatest_is}
use Rattle.bank_memory.proofs.stamp.greatest_is_of_all.Goals as goal

pub returns : goal.returns
returns c = greatest_is
