use Rattle.std.proofs.Common.{refl}
use Rattle.hart_step.specs.Hart.{registers_of}
use Rattle.hart_step.proofs.AmoLemmas.{store_fault-from_load}
use Rattle.hart_step.proofs.memory_instructions.execute_amo.Goals as goal

pub returns-in-Err-clause-ok : goal.returns-in-Err-clause-ok
returns-in-Err-clause-ok g c =
    let refused = rw c.get-address.ensures at c.in-Err.ensures in
    rw (store_fault-from_load (g.S.Store.memory c.args.store.now) (registers_of c.args.hart.now.registers c.args.operands.rs1) c.in-Err.why refused, c.fault.ensures, c.store_cause.ensures) refl
