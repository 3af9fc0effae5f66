use Rattle.std.proofs.Common.{subst, sym, ◌≡◌}
use Rattle.mem_store.specs.Image.{image_memory, segments_memory}
use Rattle.hart_local.specs.CodeMemory.{code_in}
use Rattle.bank_hart_log.specs.HartLog.{HartLogValue, IsAhead}
use Rattle.bank_hart_log.proofs.AheadLemmas.{holds_ahead, is_ahead, walked_before, walked_to}
use Rattle.bank_hart_log.proofs.log.HartLog.walk_ahead.Goals as goal

pub invariant_of-self : goal.invariant_of-self
invariant_of-self g c =
    let code = segments_memory c.args.code.now in
    let its = subst (λ (l : HartLogValue). code ≡ code_in (image_memory l.image)) (sym c.self.view_is) c.requires in
    holds_ahead _ _ _ _ _ _ _ _ _ _ c.self.invariant
    (walked_to c.self.inside.image.now c.self.inside.inputs.now c.self.inside.number c.self.inside.segments.items c.self.inside.hart c.self.inside.named c.self.inside.walked c.self.inside.reached c.walk_on-local.new.reached
    code c.walk_on-local.result c.self.invariant its (c.walk_on-local.ensures.goes (walked_before _ _ _ _ _ _ _ _ code c.self.invariant its)))

pub returns-clause-ahead : goal.returns-clause-ahead
returns-clause-ahead g c =
    let code = segments_memory c.args.code.now in
    let its = subst (λ (l : HartLogValue). code ≡ code_in (image_memory l.image)) (sym c.self.view_is) c.requires in
    subst (λ (l : HartLogValue). IsAhead l (record { local = c.walk_on-local.result; hart = c.walk_on-local.new.reached })) c.self.view_is
    (is_ahead c.self.inside.image.now c.self.inside.inputs.now c.self.inside.number c.self.inside.segments.items c.walk_on-local.result c.walk_on-local.new.reached
    (walked_to c.self.inside.image.now c.self.inside.inputs.now c.self.inside.number c.self.inside.segments.items c.self.inside.hart c.self.inside.named c.self.inside.walked c.self.inside.reached c.walk_on-local.new.reached
    code c.walk_on-local.result c.self.invariant its (c.walk_on-local.ensures.goes (walked_before _ _ _ _ _ _ _ _ code c.self.invariant its))))
