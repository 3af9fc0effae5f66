use Rattle.bank_laws.proofs.MergeLemmas.{stamps_share_no_bank}
use Rattle.bank_laws.proofs.laws.equal_stamps_share_no_bank.Goals as goal

pub returns : goal.returns
returns g c = λ bank_of T. stamps_share_no_bank bank_of T
