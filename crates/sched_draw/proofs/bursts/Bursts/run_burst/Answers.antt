use Rattle.std.proofs.Common.{◌≡◌, ◌-◌, ◌+◌, arith, ap, sym, ◌∙◌}
use Rattle.machine.specs.Machine.{world}
use Rattle.sched_run.specs.Chosen.{harts_of}
use Rattle.sched_draw.specs.Bursts.{burst_choices_drawn}
use Rattle.sched_draw.proofs.BurstLemmas.{drawn-next}
use Rattle.sched_draw.proofs.ChooserLemmas.{one_more}
use Rattle.sched_draw.proofs.bursts.Bursts.run_burst.Goals as goal

pub steps-preserved : goal.steps-preserved
steps-preserved g c =
    let before = world g.S.Store.memory c.steps.machine in
    let after = world g.S.Store.memory c.step.new.self in
    let left = c.steps.invariant.left in
    let fewer = c.go_on-choice.ensures.left in
    record {
      harts = c.step.ensures.harts ∙ c.steps.invariant.harts;
      is_for = c.go_on-choice.ensures.harts ∙ c.steps.invariant.is_for ∙ sym c.step.ensures.harts;
      left = omega (arith, left, fewer);
      refusals = c.go_on-choice.ensures.refusals ∙ c.steps.invariant.refusals;
      ran = λ steps within all old so_far.
          let n = steps - (c.steps.counter + 1) in
          let more : steps - c.steps.counter ≡ n + 1 = omega (arith, within) in
          one_more all (burst_choices_drawn (steps - c.steps.counter) c.steps.self)
          (burst_choices_drawn n c.go_on-choice.new.self)
          old before after (harts_of c.steps.chosen) (harts_of c.add.new.self) c.go_on-choice.result
          (ap (λ k. burst_choices_drawn k c.steps.self) more
          ∙ drawn-next n c.steps.self c.go_on-choice.new.self c.go_on-choice.result c.go_on-choice.ensures.choice
          c.go_on-choice.ensures.state)
          c.in_ok-step.ensures.ok c.add.ensures (c.steps.invariant.ran steps within all old so_far);
    }
