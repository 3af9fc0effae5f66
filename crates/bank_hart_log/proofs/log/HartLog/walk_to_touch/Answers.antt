use Rattle.std.proofs.Common.{ap, subst, sym, ◌∙◌, ◌≡◌}
use Rattle.mem_store.specs.Image.{image_memory, segments_memory}
use Rattle.hart_local.specs.CodeMemory.{code_in}
use Rattle.bank_hart_log.specs.HartLog.{HartLogValue, IsAheadTouch}
use Rattle.bank_hart_log.proofs.AheadLemmas.{holds_ahead, is_ahead_touch, walked_before, walked_to}
use Rattle.bank_hart_log.proofs.log.HartLog.walk_to_touch.Goals as goal

pub invariant_of-self : goal.invariant_of-self
invariant_of-self g c =
    let code = segments_memory c.args.code.now in
    let its = subst (λ (l : HartLogValue). code ≡ code_in (image_memory l.image)) (sym c.self.view_is) c.requires.code in
    holds_ahead _ _ _ _ _ _ _ _ _ _ c.self.invariant
    (walked_to c.self.inside.image.now c.self.inside.inputs.now c.self.inside.number c.self.inside.segments.items c.self.inside.hart c.self.inside.named c.self.inside.walked c.self.inside.reached c.walk_on-local.new.reached
    code c.walk_on-local.result c.self.invariant its (c.walk_on-local.ensures.goes (walked_before _ _ _ _ _ _ _ _ code c.self.invariant its)))

pub invariant_of-self-2 : goal.invariant_of-self-2
invariant_of-self-2 g c =
    let code = segments_memory c.args.code.now in
    let its = subst (λ (l : HartLogValue). code ≡ code_in (image_memory l.image)) (sym c.self.view_is) c.requires.code in
    holds_ahead _ _ _ _ _ _ _ _ _ _ c.self.invariant
    (walked_to c.self.inside.image.now c.self.inside.inputs.now c.self.inside.number c.self.inside.segments.items c.self.inside.hart c.self.inside.named c.self.inside.walked c.self.inside.reached c.walk_on-local.new.reached
    code c.walk_on-local.result c.self.invariant its (c.walk_on-local.ensures.goes (walked_before _ _ _ _ _ _ _ _ code c.self.invariant its)))

pub returns-clause-next : goal.returns-clause-next
returns-clause-next g c =
    let code = segments_memory c.args.code.now in
    let its = subst (λ (l : HartLogValue). code ≡ code_in (image_memory l.image)) (sym c.self.view_is) c.requires.code in
    subst (λ (l : HartLogValue). IsAheadTouch l (record { local = c.walk_on-local.result; touch = c.in-Some.touch })) c.self.view_is
    (is_ahead_touch c.self.inside.image.now c.self.inside.inputs.now c.self.inside.number c.self.inside.segments.items c.walk_on-local.result c.walk_on-local.new.reached c.args.instrs.now c.in-Some.touch
    (walked_to c.self.inside.image.now c.self.inside.inputs.now c.self.inside.number c.self.inside.segments.items c.self.inside.hart c.self.inside.named c.self.inside.walked c.self.inside.reached c.walk_on-local.new.reached
    code c.walk_on-local.result c.self.invariant its (c.walk_on-local.ensures.goes (walked_before _ _ _ _ _ _ _ _ code c.self.invariant its)))
    (c.requires.instrs ∙ sym (ap (λ (l : HartLogValue). l.image) c.self.view_is)) c.in-Some.ensures)
