use Rattle.std.proofs.Common.{◌+◌, ap, ◌∙◌}
use Rattle.mem_store.specs.Memory.{Memory}
use Rattle.hart_step.specs.Hart.{hart_of}
use Rattle.machine.specs.World.{step}
use Rattle.explore_space.specs.Resting.{at_once, rest_steps, rested}
use Rattle.explore_space.proofs.OwnLemmas.{rest_count, rest_shows, step_shows}
use Rattle.explore_space.proofs.turning.steps_once.Goals as goal

pub returns-clause-world : goal.returns-clause-world
returns-clause-world g c = λ w shows.
    let section = c.args.code.now.section in
    let v = hart_of c.step_site.new.hart in
    rest_shows section c.args.image.now (step w c.args.choice) c.args.choice.hart v _ _
    (step_shows c.args.image.now w c.args.choice (hart_of c.args.hart.now) v _ _ _ _ shows c.in_ok-step_site.ensures.steps)
    (hart_of c.settle.new.hart)
    (c.settle.ensures.hart ∙ ap (λ (m : Memory). rested section m at_once v) c.requires.its_code)

pub returns-clause-steps : goal.returns-clause-steps
returns-clause-steps g c = λ w shows.
    let section = c.args.code.now.section in
    let v = hart_of c.step_site.new.hart in
    ap (λ n. 1 + n)
    (rest_count section c.args.image.now (step w c.args.choice) c.args.choice.hart v _ _
    (step_shows c.args.image.now w c.args.choice (hart_of c.args.hart.now) v _ _ _ _ shows c.in_ok-step_site.ensures.steps)
    c.settle.result
    (c.settle.ensures.steps ∙ ap (λ (m : Memory). rest_steps section m at_once v) c.requires.its_code))
