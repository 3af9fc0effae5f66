use Rattle.std.proofs.Common.{◌+◌, cond, Some, ap, sym, ◌∙◌, subst, arith}
use Rattle.mem_store.specs.Image.{segments_memory}
use Rattle.hart_step.specs.Hart.{hart_of}
use Rattle.hart_local.specs.LocalStep.{step_alone}
use Rattle.explore_space.proofs.SettlingLemmas.{IsOnTheWay, way_ends, way_more, way_none, way_stops}
use Rattle.explore_space.proofs.settling.steps_outside.Goals as goal
use Rattle.explore_space.specs.Resting.{at_once}

pub steps-init : goal.steps-init
steps-init g c = way_none (Some c.args.section) (segments_memory c.args.code.now) at_once (hart_of c.args.hart.now)

pub steps-preserved : goal.steps-preserved
steps-preserved g c =
    let section = Some c.args.section in
    let code = segments_memory c.args.code.now in
    let here = hart_of c.steps.hart in
    let moved = c.step_outside.ensures.hart ∙ ap (λ b. cond b (step_alone code here) here) c.if-not-step_outside.false in
    subst (IsOnTheWay section code at_once (c.steps.done + 1) (hart_of c.args.hart.now)) (sym moved)
    (way_more section code at_once (hart_of c.args.hart.now) c.steps.done here c.steps-test.true
    (sym c.step_outside.ensures.steps ∙ c.if-not-step_outside.false) c.steps.invariant)

pub returns-then-not-step_outside-clause-hart : goal.returns-then-not-step_outside-clause-hart
returns-then-not-step_outside-clause-hart g c =
    let section = Some c.args.section in
    let code = segments_memory c.args.code.now in
    let here = hart_of c.steps.hart in
    let moved = c.step_outside.ensures.hart ∙ ap (λ b. cond b (step_alone code here) here) c.if-not-step_outside.true in
    moved ∙ (way_stops section code at_once (hart_of c.args.hart.now) c.steps.done here
    (sym c.step_outside.ensures.steps ∙ c.if-not-step_outside.true) c.steps.invariant).0

pub returns-then-not-step_outside-clause-steps : goal.returns-then-not-step_outside-clause-steps
returns-then-not-step_outside-clause-steps g c =
    (way_stops (Some c.args.section) (segments_memory c.args.code.now) at_once (hart_of c.args.hart.now) c.steps.done (hart_of c.steps.hart)
    (sym c.step_outside.ensures.steps ∙ c.if-not-step_outside.true) c.steps.invariant).1

pub returns-clause-hart : goal.returns-clause-hart
returns-clause-hart g c =
    let past = c.steps-test.false in
    (way_ends (Some c.args.section) (segments_memory c.args.code.now) at_once (hart_of c.args.hart.now) c.steps.done (hart_of c.steps.hart)
    (omega (arith, past)) c.steps.invariant).0

pub returns-clause-steps : goal.returns-clause-steps
returns-clause-steps g c =
    let past = c.steps-test.false in
    (way_ends (Some c.args.section) (segments_memory c.args.code.now) at_once (hart_of c.args.hart.now) c.steps.done (hart_of c.steps.hart)
    (omega (arith, past)) c.steps.invariant).1
