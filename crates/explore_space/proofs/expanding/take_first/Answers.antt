use Rattle.std.proofs.Common.{false, true, ◌++◌, ap, sym, ◌∙◌}
use Rattle.std.proofs.lemmas.List.{append-nil}
use Rattle.mem_store.specs.Memory.{Memory}
use Rattle.hart_step.specs.Hart.{hart_of}
use Rattle.hart_local.specs.LocalRuns.{plain_choices}
use Rattle.machine.specs.State.{state}
use Rattle.explore_space.proofs.BeginLemmas.{begun_by_state, first_by_state}
use Rattle.explore_space.proofs.TurnLists.{settles}
use Rattle.explore_space.proofs.expanding.take_first.Goals as goal
use Rattle.explore_space.specs.Resting.{at_once, rest_steps, rested}

pub returns-then-not-runs_outside-clause-world : goal.returns-then-not-runs_outside-clause-world
returns-then-not-runs_outside-clause-world g c =
    begun_by_state c.args.code.now.section (state c.args.machine.now) c.args.number (hart_of c.hart.result.now) (hart_of c.settle-count.new.hart) c.hart.ensures
    (c.settle-count.ensures.hart ∙ ap (λ (m : Memory). rested c.args.code.now.section m at_once (hart_of c.hart.result.now)) c.requires.code)
    false (sym c.if-not-runs_outside.true ∙ c.runs_outside.ensures)

pub returns-then-not-runs_outside-clause-choices : goal.returns-then-not-runs_outside-clause-choices
returns-then-not-runs_outside-clause-choices g c =
    let first = first_by_state c.args.code.now.section (state c.args.machine.now) c.args.number (hart_of c.hart.result.now) (hart_of c.settle-count.new.hart) c.hart.ensures
    (c.settle-count.ensures.hart ∙ ap (λ (m : Memory). rested c.args.code.now.section m at_once (hart_of c.hart.result.now)) c.requires.code)
    false (sym c.if-not-runs_outside.true ∙ c.runs_outside.ensures) in
    sym (append-nil c.args.choices.now.items) ∙ ap (λ n. c.args.choices.now.items ++ plain_choices c.args.number n) first

pub returns-clause-world : goal.returns-clause-world
returns-clause-world g c =
    let w = state c.args.machine.now in
    let v = hart_of c.hart.result.now in
    let u = hart_of c.settle-count.new.hart in
    let u_is = c.settle-count.ensures.hart ∙ ap (λ (m : Memory). rested c.args.code.now.section m at_once v) c.requires.code in
    c.put_hart.ensures ∙ settles c.args.code.now.section w c.args.number v u c.hart.ensures u_is
    ∙ begun_by_state c.args.code.now.section w c.args.number v u c.hart.ensures u_is true (sym c.if-not-runs_outside.false ∙ c.runs_outside.ensures)

pub returns-clause-choices : goal.returns-clause-choices
returns-clause-choices g c =
    let w = state c.args.machine.now in
    let v = hart_of c.hart.result.now in
    let u = hart_of c.settle-count.new.hart in
    let u_is = c.settle-count.ensures.hart ∙ ap (λ (m : Memory). rested c.args.code.now.section m at_once v) c.requires.code in
    c.in_ok-push_plain.ensures
    ∙ ap (λ n. c.args.choices.now.items ++ plain_choices c.args.number n)
    (c.settle-count.ensures.steps ∙ ap (λ (m : Memory). rest_steps c.args.code.now.section m at_once v) c.requires.code
    ∙ first_by_state c.args.code.now.section w c.args.number v u c.hart.ensures u_is true (sym c.if-not-runs_outside.false ∙ c.runs_outside.ensures))
