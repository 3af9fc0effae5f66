use Rattle.std.proofs.Common.{refl, sym, subst, ap, ◌∙◌, List, [], ◌∷◌, ◌++◌}
use Rattle.hart_step.specs.Hart.{hart_of}
use Rattle.bank_laws.specs.Segments.{LoggedSegment}
use Rattle.bank_hart_log.specs.HartLog.{with_access, HartLogHolds}
use Rattle.bank_hart_log.specs.declared.step.Slot.{Slot}
use Rattle.bank_hart_log.proofs.AheadLemmas.{ahead_there, holds_back}
use Rattle.bank_hart_log.proofs.LogLemmas.{from_log, holds_push, instr_there, local_there, seen_fits}
use Rattle.bank_hart_log.proofs.log.HartLog.add_touch.Goals as goal

pub reach-requires-clause-local : goal.reach-requires-clause-local
reach-requires-clause-local g c =
    local_there c.self.inside.image.now c.self.inside.inputs.now c.self.inside.number c.self.inside.segments.items c.self.inside.hart c.self.inside.named c.self.inside.walked c.self.inside.reached
    c.args.self.now c.args.segment c.args.touch c.segment.inside.local c.self.invariant c.self.view_is c.requires (ap (λ (x : LoggedSegment). x.local) c.segment.view_is)

pub reach-requires-clause-reached : goal.reach-requires-clause-reached
reach-requires-clause-reached g c =
    ahead_there c.self.inside.image.now c.self.inside.inputs.now c.self.inside.number c.self.inside.segments.items c.self.inside.hart c.self.inside.named c.self.inside.walked c.self.inside.reached c.self.invariant

pub touch_word-named-requires : goal.touch_word-named-requires
touch_word-named-requires g c =
    instr_there c.self.inside.image.now c.self.inside.inputs.now c.self.inside.number c.self.inside.segments.items c.args.self.now c.args.segment c.args.touch
    c.reach.new.reached c.args.found.bytes c.segment.inside.local c.self.view_is c.requires (ap (λ (x : LoggedSegment). x.local) c.segment.view_is)
    (from_log c.self.inside.image.now c.self.inside.inputs.now c.self.inside.number c.self.inside.segments.items c.self.inside.hart c.self.inside.named c.self.inside.walked c.self.inside.reached
    c.args.self.now c.segment.inside.local (hart_of c.reach.new.reached) c.self.invariant c.self.view_is c.reach.ensures)

pub invariant_of-self : goal.invariant_of-self
invariant_of-self g c =
    let image = c.self.inside.image.now in
    let inputs = c.self.inside.inputs.now in
    let h = c.self.inside.number in
    let hart = c.self.inside.hart in
    let named = c.self.inside.named in
    subst (λ (es : List LoggedSegment). HartLogHolds image inputs h es hart named 0 hart) (sym c.in_default.ensures.items)
    (holds_back image inputs h c.self.inside.segments.items hart named c.self.inside.walked c.self.inside.reached c.self.invariant)

pub invariant_of-self-2 : goal.invariant_of-self-2
invariant_of-self-2 g c =
    let image = c.self.inside.image.now in
    let inputs = c.self.inside.inputs.now in
    let h = c.self.inside.number in
    let log = c.self.inside.segments.items in
    let e = c.args.segment in
    let a = c.touch_word-named.result.access in
    let r : Slot = record { hart = c.touch_word-named.new.hart; named = c.touch_word-named.result.named } in
    let is = seen_fits image inputs h log c.self.inside.hart c.self.inside.named c.self.inside.walked c.self.inside.reached c.args.self.now e c.args.touch
    (record { hart = c.reach.new.reached; named = c.self.inside.named }) r a c.args.found.bytes c.args.found.mark c.segment.inside.local
    c.self.invariant c.self.view_is c.requires (ap (λ (x : LoggedSegment). x.local) c.segment.view_is)
    (from_log image inputs h log c.self.inside.hart c.self.inside.named c.self.inside.walked c.self.inside.reached c.args.self.now c.segment.inside.local (hart_of c.reach.new.reached) c.self.invariant c.self.view_is c.reach.ensures)
    refl
    (record { access_is = c.touch_word-named.ensures.access; slot_after_is = c.touch_word-named.ensures.slot }) in
    subst (λ (es : List LoggedSegment). HartLogHolds image inputs h es r.hart r.named 0 r.hart)
    (sym (c.in-Ok.ensures.items ∙ ap (λ (x : LoggedSegment). log ++ x ∷ []) c.with_access.ensures))
    (holds_push image inputs h log c.self.inside.hart c.self.inside.named c.self.inside.walked c.self.inside.reached (with_access e a) r c.self.invariant is.0 is.1)
