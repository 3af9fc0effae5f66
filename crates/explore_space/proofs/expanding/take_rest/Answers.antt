use Rattle.std.proofs.Common.{◌++◌, ap, sym, ◌∙◌}
use Rattle.mem_store.specs.Memory.{Memory}
use Rattle.hart_step.specs.Hart.{hart_of}
use Rattle.hart_local.specs.LocalRuns.{plain_choices}
use Rattle.machine.specs.State.{state}
use Rattle.explore_space.proofs.TurnLists.{settles}
use Rattle.explore_space.proofs.expanding.take_rest.Goals as goal
use Rattle.explore_space.specs.Resting.{at_once, rest_steps, rested, resting_steps}

pub returns-clause-world : goal.returns-clause-world
returns-clause-world g c =
    let w = state c.args.machine.now in
    let v = hart_of c.hart.result.now in
    let section = c.args.code.now.section in
    c.put_hart.ensures
    ∙ settles section w c.args.number v (hart_of c.settle-count.new.hart) c.hart.ensures
    (c.settle-count.ensures.hart ∙ ap (λ (m : Memory). rested section m at_once v) c.requires.code)

pub returns-clause-choices : goal.returns-clause-choices
returns-clause-choices g c =
    let w = state c.args.machine.now in
    let v = hart_of c.hart.result.now in
    let section = c.args.code.now.section in
    c.in_ok-push_plain.ensures
    ∙ ap (λ n. c.args.choices.now.items ++ plain_choices c.args.number n)
    (c.settle-count.ensures.steps ∙ ap (λ (m : Memory). rest_steps section m at_once v) c.requires.code
    ∙ ap (resting_steps section w) (sym c.hart.ensures))
