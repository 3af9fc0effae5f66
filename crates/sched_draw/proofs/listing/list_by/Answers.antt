use Rattle.std.proofs.Common.{◌≡◌, ◌-◌, ◌+◌, ◌<◌, arith, ap, ap₂, ◌∷◌, sym, subst, ◌∙◌}
use Rattle.std.specs.List.{All}
use Rattle.machine.specs.Machine.{world}
use Rattle.sched_draw.specs.Drawn.{drawing_watched}
use Rattle.sched_draw.specs.NoSteps.{no_priorities}
use Rattle.sched_draw.specs.Priorities.{priority_choices_drawn}
use Rattle.sched_draw.proofs.ChooserLemmas.{all_listed, one_listed}
use Rattle.sched_draw.proofs.PriorityLemmas.{drawn-next}
use Rattle.sched_draw.proofs.listing.list_by.Goals as goal

pub steps-preserved : goal.steps-preserved
steps-preserved g c =
    let before = world g.S.Store.memory c.steps.machine in
    let after = world g.S.Store.memory c.step.new.self in
    let n = c.args.steps - (c.steps.step + 1) in
    let more : c.args.steps - c.steps.step ≡ n + 1 = omega arith in
    record {
      some = subst (λ k. 0 < k) (sym c.step.ensures.harts) c.steps.invariant.some;
      there = subst (λ k. All (λ h. h < k) c.next.new.self.priorities.value.order.items) (sym c.step.ensures.harts) c.in_ok-choice.ensures.stays;
      so_far = one_listed c.steps.choices.items
          (priority_choices_drawn c.steps.chooser.refusals c.steps.step (c.args.steps - c.steps.step) (drawing_watched c.steps.chooser) before)
          (priority_choices_drawn c.args.chooser.refusals 0 c.args.steps (drawing_watched c.args.chooser) (world g.S.Store.memory c.args.machine.now))
          c.steps.invariant.so_far
          (priority_choices_drawn c.next.new.self.refusals (c.steps.step + 1) n (drawing_watched c.next.new.self) after)
          c.push.new.self.items c.in_ok-choice.choice
          (ap (λ k. priority_choices_drawn c.steps.chooser.refusals c.steps.step k (drawing_watched c.steps.chooser) before) more
          ∙ drawn-next c.steps.chooser.refusals c.steps.step n (drawing_watched c.steps.chooser) (drawing_watched c.next.new.self) before
          c.in_ok-choice.choice c.in_ok-choice.ensures.chooses c.in_ok-choice.ensures.state
          ∙ ap₂ (λ r w. c.in_ok-choice.choice ∷ priority_choices_drawn r (c.steps.step + 1) n (drawing_watched c.next.new.self) w)
          (sym c.in_ok-choice.ensures.refusals) (sym c.in_ok-step.ensures.ok))
          c.in_ok-push.ensures.items;
    }

pub returns : goal.returns
returns g c =
    let none : c.args.steps - c.steps.step ≡ 0 = omega arith in
    let last = world g.S.Store.memory c.steps.machine in
    all_listed c.steps.choices.items
    (priority_choices_drawn c.steps.chooser.refusals c.steps.step (c.args.steps - c.steps.step) (drawing_watched c.steps.chooser) last)
    (priority_choices_drawn c.args.chooser.refusals 0 c.args.steps (drawing_watched c.args.chooser) (world g.S.Store.memory c.args.machine.now))
    c.steps.invariant.so_far
    (ap (λ k. priority_choices_drawn c.steps.chooser.refusals c.steps.step k (drawing_watched c.steps.chooser) last) none
    ∙ no_priorities c.steps.chooser.refusals c.steps.step (drawing_watched c.steps.chooser) last)
