use Rattle.std.proofs.Common.{◌≡◌, length, rules}
use Rattle.sched_draw.specs.Drawn.{drawing}
use Rattle.sched_draw.proofs.PriorityLemmas.{hart_placed}
use Rattle.sched_draw.proofs.priorities.Priorities.draw_place.Goals as goal

pub returns : goal.returns
returns g c =
    let long : c.len.result ≡ length c.args.self.now.order.items = search rules in
    hart_placed (drawing c.args.self.now) c.args.hart c.next_word-word.result c.len.result c.next_word-word.new.self c.insert.new.self.items
    c.next_word-word.ensures long c.in_ok-insert.ensures.items
