use Rattle.std.proofs.Common.{IfOk, ap₂, subst, ◌∙◌}
use Rattle.machine.specs.Machine.{world}
use Rattle.sched_run.specs.Chosen.{harts_of}
use Rattle.sched_draw.specs.Schedules.{drawn_choices, RanOver}
use Rattle.sched_draw.specs.Seeds.{usual_choices_drawn}
use Rattle.sched_draw.proofs.ChoiceLemmas.{usual_order}
use Rattle.sched_draw.proofs.running.run_in_order.Goals as goal

pub returns-then-is_usual : goal.returns-then-is_usual
unfolding drawn_choices
returns-then-is_usual g c =
    subst (λ choices. IfOk c.run_by.result (λ chosen. RanOver choices (world g.S.Store.memory c.args.machine.now)
    (world g.S.Store.memory c.run_by.new.machine) (harts_of chosen)))
    (ap₂ (λ n generator. usual_choices_drawn n c.args.steps generator) c.new.ensures.harts c.new.ensures.begun
    ∙ usual_order c.args.draw.order c.args.draw.points c.args.draw.refusals (world g.S.Store.memory c.args.machine.now) c.args.harts c.args.steps c.args.seed
    c.in-Even.is (c.is_usual.ensures.0 c.if-is_usual.true))
    c.run_by.ensures
