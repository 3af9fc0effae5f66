use Rattle.std.proofs.Common.{arith, ap, sym, ◌∙◌, [], ◌≡◌, ◌+◌, ◌-◌, suc, Option, ℕ}
use Rattle.mem_store.specs.Image.{image_memory}
use Rattle.hart_step.specs.Hart.{hart_of}
use Rattle.hart_local.specs.CodeMemory.{code_in}
use Rattle.bank_step.specs.Told.{told_word}
use Rattle.bank_hart_log.proofs.AheadLemmas.{class_local, leads_alone, local_class}
use Rattle.bank_hart_log.proofs.StepLemmas.{leads_first, leads_next, not_local, all_local, told_none}
use Rattle.bank_hart_log.proofs.step.walked.Goals as goal

pub steps-init : goal.steps-init
steps-init g c = leads_first _ _ _ _ (omega arith)

pub returns-then-not-is_local_next : goal.returns-then-not-is_local_next
returns-then-not-is_local_next g c =
    let low = c.steps-test.true in
    let e : c.args.count - c.steps.counter ≡ suc (c.args.count - (c.steps.counter + 1)) = omega (arith, low) in
    not_local _ _ _ _ _ _ e c.steps.invariant
    (λ local. let t = class_local (code_in (image_memory c.args.image.now)) (hart_of c.steps.reached) local in let is = c.is_local_next.ensures in let f = c.if-not-is_local_next.true in cc (t, is, f))

pub steps-preserved : goal.steps-preserved
steps-preserved g c =
    let low = c.steps-test.true in
    let e : c.args.count - c.steps.counter ≡ suc (c.args.count - (c.steps.counter + 1)) = omega (arith, low) in
    let m = image_memory c.args.image.now in
    let v = hart_of c.steps.reached in
    let local = sym c.is_local_next.ensures ∙ c.if-not-is_local_next.false in
    let still = leads_alone m v local in
    leads_next _ _ _ _ _ _ _ e c.steps.invariant (local_class (code_in m) v local)
    (c.settle.ensures [] [] (ap (λ (o : Option ℕ). told_word o []) (sym still.need)) (told_none _ [] still.plan))

pub returns : goal.returns
returns g c =
    let high = c.steps-test.false in
    all_local _ _ _ _ _ (omega (arith, high)) c.steps.invariant
