use Rattle.std.proofs.Common.{ap, ap₂, ◌∙◌}
use Rattle.sched_draw.specs.Drawn.{drawing}
use Rattle.sched_draw.specs.Priorities.{priority_drawing, with_harts}
use Rattle.sched_draw.proofs.PriorityLemmas.{all_drawn}
use Rattle.sched_draw.proofs.priorities.Priorities.new.Goals as goal

pub returns : goal.returns
returns g c =
    all_drawn c.args.harts c.number-depth.result c.args.places c.args.seed (drawing c.draw_order.new.self) (drawing c.draw_points.new.self)
    c.seeded_generator.result c.seeded_generator.ensures
    (c.in_ok-draw_order.ensures
    ∙ ap₂ (λ order points. with_harts c.args.harts (record { order = order; points = points; generator = c.seeded_generator.result }))
    c.in_ok-with_capacity.ensures.items c.in_ok-with_capacity-2.ensures.items)
    c.in_ok-draw_points.ensures
    ∙ ap (λ n. priority_drawing c.args.harts n c.args.places c.args.seed) c.number-depth.ensures.is
