use Rattle.bank_memory.proofs.BankLemmas.{holds_first}
use Rattle.bank_memory.proofs.bank.Bank.new.Goals as goal

pub invariant_of-result : goal.invariant_of-result
invariant_of-result g c = rw (c.new-3.ensures.items) (holds_first c.args.image.now c.args.inputs.now c.args.number c.new.result _ c.requires.harts c.new.ensures.empty c.new-2.ensures)
