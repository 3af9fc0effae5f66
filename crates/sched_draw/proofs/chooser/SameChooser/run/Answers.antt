use Rattle.std.proofs.Common.{◌≡◌, ◌-◌, ◌+◌, arith, ap, sym, ◌∙◌}
use Rattle.machine.specs.Machine.{world}
use Rattle.sched_run.specs.Chosen.{harts_of}
use Rattle.sched_draw.proofs.ChooserLemmas.{one_more}
use Rattle.sched_draw.proofs.chooser.SameChooser.run.Goals as goal

pub steps-preserved : goal.steps-preserved
steps-preserved g c =
    let before = world g.S.Store.memory c.steps.machine in
    let after = world g.S.Store.memory c.step.new.self in
    record {
      harts = c.step.ensures.harts ∙ c.steps.invariant.harts;
      is_for = c.draw-choice.ensures.stays ∙ c.steps.invariant.is_for ∙ sym c.step.ensures.harts;
      ran = λ steps within all old so_far.
          let n = steps - (c.steps.step + 1) in
          let more : steps - c.steps.step ≡ n + 1 = omega (arith, within) in
          one_more all (g.D.Drawer.drawn c.steps.self.0 c.steps.step (steps - c.steps.step))
          (g.D.Drawer.drawn c.draw-choice.new.self (c.steps.step + 1) n)
          old before after (harts_of c.steps.chosen) (harts_of c.add.new.self) c.draw-choice.result
          (ap (g.D.Drawer.drawn c.steps.self.0 c.steps.step) more ∙ c.draw-choice.ensures.draws n)
          c.in_ok-step.ensures.ok c.add.ensures (c.steps.invariant.ran steps within all old so_far);
    }
