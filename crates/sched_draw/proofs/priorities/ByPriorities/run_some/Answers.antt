use Rattle.std.proofs.Common.{◌≡◌, ◌-◌, ◌+◌, arith, ap, ap₂, ◌∷◌, sym, ◌∙◌}
use Rattle.machine.specs.Machine.{world}
use Rattle.sched_run.specs.Chosen.{harts_of}
use Rattle.sched_draw.specs.Drawn.{drawing_watched}
use Rattle.sched_draw.specs.Priorities.{priority_choices_drawn}
use Rattle.sched_draw.proofs.ChooserLemmas.{one_more}
use Rattle.sched_draw.proofs.PriorityLemmas.{drawn-next}
use Rattle.sched_draw.proofs.priorities.ByPriorities.run_some.Goals as goal

pub returns-clause-ran : goal.returns-clause-ran
returns-clause-ran g c = λ steps within all old so_far.
    let before = world g.S.Store.memory c.args.machine.now in
    let after = world g.S.Store.memory c.step.new.self in
    let ahead = c.requires.ahead in
    let n = steps - (c.args.from + 1) in
    let more : steps - c.args.from ≡ n + 1 = omega (arith, within, ahead) in
    one_more all
    (priority_choices_drawn c.args.self.now.refusals c.args.from (steps - c.args.from) (drawing_watched c.args.self.now) before)
    (priority_choices_drawn c.next.new.self.refusals (c.args.from + 1) n (drawing_watched c.next.new.self) after)
    old before after (harts_of c.args.chosen.now) (harts_of c.add.new.self) c.in_ok-choice.choice
    (ap (λ k. priority_choices_drawn c.args.self.now.refusals c.args.from k (drawing_watched c.args.self.now) before) more
    ∙ drawn-next c.args.self.now.refusals c.args.from n (drawing_watched c.args.self.now) (drawing_watched c.next.new.self) before
    c.in_ok-choice.choice c.in_ok-choice.ensures.chooses c.in_ok-choice.ensures.state
    ∙ ap₂ (λ r w. c.in_ok-choice.choice ∷ priority_choices_drawn r (c.args.from + 1) n (drawing_watched c.next.new.self) w)
    (sym c.in_ok-choice.ensures.refusals) (sym c.in_ok-step.ensures.ok))
    c.in_ok-step.ensures.ok c.add.ensures so_far
