use Rattle.std.proofs.Common.{ap, map, ◌∙◌}
use Rattle.hart_step.specs.Hart.{hart_of}
use Rattle.sched_draw.specs.Drawn.{drawing}
use Rattle.sched_draw.specs.Priorities.{first_running}
use Rattle.sched_draw.proofs.PriorityLemmas.{chosen, left_behind}
use Rattle.sched_draw.proofs.priorities.Priorities.next_choice.Goals as goal

pub returns-clause-choice : goal.returns-clause-choice
returns-clause-choice g c =
    chosen c.args.refusals (map hart_of c.args.harts.now) (drawing c.args.self.now) c.first_running-hart.result c.next_word-word.result
    c.next_word-word.new.self
    (c.first_running-hart.ensures ∙ ap (first_running (map hart_of c.args.harts.now)) c.deref.ensures.value)
    c.next_word-word.ensures c.refuses.result c.refuses.ensures

pub returns-clause-state : goal.returns-clause-state
returns-clause-state g c =
    left_behind c.args.place (map hart_of c.args.harts.now) (drawing c.args.self.now) (drawing c.pass.new.self)
    c.first_running-hart.result c.next_word-word.result c.next_word-word.new.self
    (c.first_running-hart.ensures ∙ ap (first_running (map hart_of c.args.harts.now)) c.deref.ensures.value)
    c.next_word-word.ensures c.in_ok-pass.ensures
