use Rattle.std.proofs.Common.{ap, ◌∙◌}
use Rattle.sched_draw.specs.Bursts.{BurstDrawing}
use Rattle.sched_draw.proofs.BurstLemmas.{after-harts, drawn-next}
use Rattle.sched_draw.proofs.bursts.BurstsDrawer.draw.Goals as goal

pub returns-clause-draws : goal.returns-clause-draws
returns-clause-draws c = λ n.
    drawn-next n c.args.self.now c.next_choice.new.self c.next_choice.result c.next_choice.ensures.choice c.next_choice.ensures.state

pub returns-clause-stays : goal.returns-clause-stays
returns-clause-stays c = ap (λ (d : BurstDrawing). d.harts) c.next_choice.ensures.state ∙ after-harts c.args.self.now
