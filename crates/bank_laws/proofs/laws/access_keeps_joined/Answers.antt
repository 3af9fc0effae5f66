use Rattle.bank_laws.proofs.AccessLemmas.{access_keeps}
use Rattle.bank_laws.proofs.laws.access_keeps_joined.Goals as goal

pub returns : goal.returns
returns c = access_keeps
