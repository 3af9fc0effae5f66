use Rattle.std.proofs.Common.{sym, subst, ◌≡◌}
use Rattle.bank_laws.specs.HartLogs.{segment_slot}
use Rattle.bank_hart_log.specs.HartLog.{HartLogValue, image_table, logged_slot, FitsLog}
use Rattle.bank_hart_log.specs.LastStep.{slot_is}
use Rattle.bank_hart_log.proofs.LogLemmas.{holds_push}
use Rattle.bank_hart_log.proofs.log.HartLog.add.Goals as goal

pub invariant_of-self-2 : goal.invariant_of-self-2
invariant_of-self-2 g c =
    rw (c.in-Ok.ensures.items)
    (holds_push c.self.inside.image.now c.self.inside.inputs.now c.self.inside.number c.self.inside.segments.items c.self.inside.hart c.self.inside.named c.self.inside.walked c.self.inside.reached
    c.args.segment c.in-Some.slot c.self.invariant
    (subst (λ (l : HartLogValue). FitsLog l c.args.segment) (sym c.self.view_is) c.in-Some.ensures.0)
    (subst (λ (l : HartLogValue). slot_is c.in-Some.slot ≡ segment_slot (image_table l.image) c.args.segment (logged_slot l)) (sym c.self.view_is) c.in-Some.ensures.1))
