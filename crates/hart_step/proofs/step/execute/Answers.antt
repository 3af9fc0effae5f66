use Rattle.std.proofs.Common.{refl}
use Rattle.hart_reservations.specs.Reserve.{marks}
use Rattle.hart_step.proofs.step.execute.Goals as goal

pub returns-in-Ebreak-clause-ok : goal.returns-in-Ebreak-clause-ok
returns-in-Ebreak-clause-ok g c = rw (c.in-Ebreak.is, c.fault.ensures) refl

pub returns-in-Ecall-clause-ok : goal.returns-in-Ecall-clause-ok
returns-in-Ecall-clause-ok g c = rw (c.in-Ecall.is) (c.environment_call.ensures (g.S.Store.memory c.args.store.now) (marks c.args.reserve.now))

pub returns-in-Load-clause-ok : goal.returns-in-Load-clause-ok
returns-in-Load-clause-ok g c =
    rw (c.in-Load.is) (rw (c.effective_address-address.ensures) at (c.execute_load.ensures (marks c.args.reserve.now)))

pub returns-in-LoadReserved-clause-ok : goal.returns-in-LoadReserved-clause-ok
returns-in-LoadReserved-clause-ok g c = rw (c.in-LoadReserved.is) (rw (c.get-address.ensures) at c.load_reserved.ensures)

pub returns-in-Store-clause-ok : goal.returns-in-Store-clause-ok
returns-in-Store-clause-ok g c =
    rw (c.in-Store.is) (rw (c.get-value.ensures, c.effective_address-address-in-Store.ensures) at c.execute_store.ensures.ok)

pub returns-in-StoreConditional-clause-ok : goal.returns-in-StoreConditional-clause-ok
returns-in-StoreConditional-clause-ok g c = rw (c.in-StoreConditional.is) c.store_conditional.ensures.ok

pub returns-in-Amo-clause-ok : goal.returns-in-Amo-clause-ok
returns-in-Amo-clause-ok g c = rw (c.in-Amo.is) c.execute_amo.ensures.ok

pub returns-in-Store-clause-stores : goal.returns-in-Store-clause-stores
returns-in-Store-clause-stores g c =
    rw (c.in-Store.is) (rw (c.effective_address-address-in-Store.ensures) at c.execute_store.ensures.stores)

pub returns-in-StoreConditional-clause-stores : goal.returns-in-StoreConditional-clause-stores
returns-in-StoreConditional-clause-stores g c = rw (c.in-StoreConditional.is) c.store_conditional.ensures.stores

pub returns-in-Amo-clause-stores : goal.returns-in-Amo-clause-stores
returns-in-Amo-clause-stores g c = rw (c.in-Amo.is) c.execute_amo.ensures.stores
