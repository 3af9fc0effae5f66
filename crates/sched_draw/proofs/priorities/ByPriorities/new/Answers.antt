use Rattle.std.proofs.Common.{◌<◌, None, ap, sym, subst, ◌∙◌}
use Rattle.std.specs.List.{All}
use Rattle.sched_draw.specs.Drawn.{drawing}
use Rattle.sched_draw.specs.Priorities.{PriorityDrawing, priority_choices_drawn}
use Rattle.sched_draw.proofs.PriorityLemmas.{order-there}
use Rattle.sched_draw.proofs.priorities.ByPriorities.new.Goals as goal

pub returns-clause-choices : goal.returns-clause-choices
returns-clause-choices g c = λ steps w.
    ap (λ p. priority_choices_drawn c.args.refusals 0 steps (record { drawing = drawing p; watch = None }) w) c.in_ok-new.ensures.ok
    ∙ ap (λ d. priority_choices_drawn c.args.refusals 0 steps (record { drawing = d; watch = None }) w) c.in_ok-priorities.ensures

pub returns-clause-there : goal.returns-clause-there
returns-clause-there g c =
    subst (λ (d : PriorityDrawing). All (λ h. h < c.args.harts) d.order) (sym (ap (λ p. drawing p) c.in_ok-new.ensures.ok ∙ c.in_ok-priorities.ensures))
    (order-there c.args.harts c.args.depth.number c.args.places c.args.seed)
