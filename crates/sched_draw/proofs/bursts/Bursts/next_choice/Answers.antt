use Rattle.std.proofs.Common.{ap, subst, ◌<◌, ◌∙◌}
use Rattle.sched_draw.specs.Bursts.{BurstDrawing, after_burst_choice, next_burst_choice}
use Rattle.sched_draw.proofs.BurstLemmas.{after-again, in_burst-harts, next-again}
use Rattle.sched_draw.proofs.bursts.Bursts.next_choice.Goals as goal

pub returns-clause-choice : goal.returns-clause-choice
returns-clause-choice c =
    c.go_on.ensures.choice ∙ ap next_burst_choice c.begin_burst.ensures.state ∙ next-again c.args.self.now

pub returns-clause-state : goal.returns-clause-state
returns-clause-state c =
    c.go_on.ensures.state ∙ ap after_burst_choice c.begin_burst.ensures.state ∙ after-again c.args.self.now

pub returns-clause-within : goal.returns-clause-within
returns-clause-within c =
    subst (λ n. c.go_on.result.hart < n)
    (ap (λ (d : BurstDrawing). d.harts) c.begin_burst.ensures.state ∙ in_burst-harts c.args.self.now) c.go_on.ensures.within
