use Rattle.bank_laws.proofs.MergeLemmas.{merged_once}
use Rattle.bank_laws.proofs.laws.merged_list_is_one.Goals as goal

pub returns : goal.returns
returns c = merged_once
