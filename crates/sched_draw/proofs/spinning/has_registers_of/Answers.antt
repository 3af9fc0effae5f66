use Rattle.hart_step.specs.Hart.{hart_of}
use Rattle.sched_draw.proofs.SpinLemmas.{register_more}
use Rattle.sched_draw.proofs.spinning.has_registers_of.Goals as goal

pub registers-preserved : goal.registers-preserved
registers-preserved c =
    register_more c.registers.r (hart_of c.args.seen.now).registers (hart_of c.args.now.now).registers c.registers.same c.registers.invariant
