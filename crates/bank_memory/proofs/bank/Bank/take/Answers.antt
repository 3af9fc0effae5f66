use Rattle.std.proofs.Common.{rules, arith, ◌≡◌}
use Rattle.std.proofs.lemmas.Grind.{common_steps}
use Rattle.bank_memory.specs.BankLog.{FitsBank}
use Rattle.bank_memory.proofs.BankLemmas.{holds_push, holds_still}
use Rattle.bank_memory.proofs.bank.Bank.take.Goals as goal

pub invariant_of-self-then-not-store : goal.invariant_of-self-then-not-store
invariant_of-self-then-not-store g c =
    let back : c.pop.new.self.items ≡ c.self.inside.log.items = grind (arith, common_steps, c.pop.ensures.rest, c.in-Ok.ensures.items, c.in-Ok.ensures.len, c.push.ensures.len) in
    rw back (holds_still c.self.inside.image.now c.self.inside.inputs.now c.self.inside.number c.self.inside.log.items c.self.inside.changed c.store.new.changed _ c.args.access c.self.invariant (λ x. c.if-not-store.ensures x))

pub invariant_of-self-2 : goal.invariant_of-self-2
invariant_of-self-2 g c =
    let fit : FitsBank (record { image = c.self.inside.image.now; inputs = c.self.inside.inputs.now; number = c.self.inside.number; log = c.self.inside.log.items }) c.args.access = search rules in
    rw (c.in-Ok.ensures.items) (holds_push c.self.inside.image.now c.self.inside.inputs.now c.self.inside.number c.self.inside.log.items c.self.inside.changed c.store.new.changed _ _ c.args.access c.self.invariant fit (λ x. c.if-not-store.ensures x) c.mark.ensures)
