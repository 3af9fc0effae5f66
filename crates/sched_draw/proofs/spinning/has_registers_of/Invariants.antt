use Rattle.std.proofs.Common.{◌≡◌}
use Rattle.hart_step.specs.Hart.{hart_of}
use Rattle.sched_draw.specs.Spinning.{same_registers}
use Rattle.sched_draw.proofs.spinning.has_registers_of.Given as goal

-- whether the registers so far are the same
abbrev pub invariant-registers : goal.invariant-registers
invariant-registers l = l.same ≡ same_registers l.r (hart_of l.seen).registers (hart_of l.now).registers
