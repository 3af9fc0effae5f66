use Rattle.std.proofs.Common.{ap}
use Rattle.bank_laws.specs.Segments.{HartSlot}
use Rattle.hart_step.specs.Hart.{HartValue}
use Rattle.bank_hart_log.proofs.LogLemmas.{fits_seen}
use Rattle.bank_hart_log.proofs.log.HartLog.slot_after.Goals as goal

pub returns : goal.returns
returns g c =
    fits_seen _ c.args.self.now _ c.args.segment.now (record { hart = c.in-Some.hart; named = c.self.inside.named }) c.last_step.result
    c.self.view_is c.segment.view_is c.if-segment-self.false c.in-Some.ensures.0 c.in-Some.ensures.1
    (ap (λ (s : HartSlot HartValue). s.named) c.self.invariant.slot) c.last_step.ensures
