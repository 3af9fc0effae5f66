use Rattle.std.proofs.Common.{subst}
use Rattle.bank_memory.specs.BankLog.{BankLog, IsOfBank}
use Rattle.bank_memory.proofs.BankLemmas.{is_of_bank}
use Rattle.bank_memory.proofs.bank.each_bank_is_logged.Goals as goal

pub returns : goal.returns
returns g c =
    subst (λ (b : BankLog). IsOfBank b) c.bank.view_is
    (is_of_bank c.bank.inside.image.now c.bank.inside.inputs.now c.bank.inside.number c.bank.inside.log.items c.bank.inside.changed _
    c.segments.ensures.sound c.bank.invariant)
