use Rattle.std.proofs.Common.{◌++◌, ◌∷◌, [], ◌%◌, ap, ◌∙◌}
use Rattle.sched_draw.specs.Drawn.{drawing}
use Rattle.sched_draw.proofs.PriorityLemmas.{point_placed}
use Rattle.sched_draw.proofs.priorities.Priorities.draw_point.Goals as goal

pub returns : goal.returns
returns g c =
    point_placed (drawing c.args.self.now) c.args.places c.next_word-word.result c.next_word-word.new.self c.push.new.self.items
    c.next_word-word.ensures
    (c.in_ok-push.ensures.items ∙ ap (λ w. c.args.self.now.points.items ++ w % c.args.places ∷ []) c.from.ensures)
