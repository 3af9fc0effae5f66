use Rattle.std.proofs.Common.{true, false, ap, sym, ◌∙◌}
use Rattle.mem_store.specs.Memory.{Memory}
use Rattle.hart_step.specs.Hart.{hart_of}
use Rattle.explore_space.specs.Resting.{at_once, rest_steps, rested}
use Rattle.explore_space.proofs.BeginLemmas.{first_by_state}
use Rattle.explore_space.proofs.beginning.steps_of_hart.Goals as goal

pub returns-then-runs_outside : goal.returns-then-runs_outside
returns-then-runs_outside g c = λ w h there code_is.
    let section = c.args.code.now.section in
    let v = hart_of c.args.hart.now in
    let u = hart_of c.settle-steps.new.hart in
    c.settle-steps.ensures.steps ∙ ap (λ (m : Memory). rest_steps section m at_once v) code_is
    ∙ first_by_state section w h v u there (c.settle-steps.ensures.hart ∙ ap (λ (m : Memory). rested section m at_once v) code_is)
    true (sym c.if-runs_outside.true ∙ c.runs_outside.ensures)

pub returns-else-runs_outside : goal.returns-else-runs_outside
returns-else-runs_outside g c = λ w h there code_is.
    let section = c.args.code.now.section in
    let v = hart_of c.args.hart.now in
    let u = hart_of c.settle-steps.new.hart in
    first_by_state section w h v u there (c.settle-steps.ensures.hart ∙ ap (λ (m : Memory). rested section m at_once v) code_is)
    false (sym c.if-runs_outside.false ∙ c.runs_outside.ensures)
