use Rattle.std.proofs.Common.{◌-◌}
use Rattle.hart_step.specs.Hart.{hart_of}
use Rattle.bank_hart_log.proofs.StepLemmas.{LeadsOn}
use Rattle.bank_hart_log.proofs.step.walked.Given as goal

abbrev pub invariant-steps : goal.invariant-steps
invariant-steps g l = LeadsOn l.image l.count (hart_of l.hart) (l.count - l.counter) (hart_of l.reached)
