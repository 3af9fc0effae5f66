use Rattle.std.proofs.Common.{subst}
use Rattle.bank_hart_log.specs.HartLog.{HartLogValue, IsOfHart}
use Rattle.bank_hart_log.proofs.LogLemmas.{is_of_hart}
use Rattle.bank_hart_log.proofs.log.each_hart_log_is_walked.Goals as goal

pub returns : goal.returns
returns g c = subst (λ (l : HartLogValue). IsOfHart l) c.log.view_is (is_of_hart c.log.inside.image.now c.log.inside.inputs.now c.log.inside.number c.log.inside.segments.items c.log.inside.hart c.log.inside.named c.log.inside.walked c.log.inside.reached c.log.invariant)
