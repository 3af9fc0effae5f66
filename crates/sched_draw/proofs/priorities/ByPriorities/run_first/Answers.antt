use Rattle.std.proofs.Common.{◌≡◌, ◌-◌, ◌+◌, ◌<◌, false, arith, ap, ap₂, ◌∷◌, length, refl, sym, subst, ◌∙◌}
use Rattle.std.specs.List.{All}
use Rattle.machine.specs.Machine.{world}
use Rattle.machine.specs.Running.{runs}
use Rattle.sched_run.specs.Chosen.{harts_of}
use Rattle.sched_run.specs.Harts.{with_hart}
use Rattle.sched_draw.specs.Drawn.{drawing_watched}
use Rattle.sched_draw.specs.Priorities.{WatchedDrawing, first_running, is_point, priority_choices_drawn}
use Rattle.sched_draw.proofs.ChooserLemmas.{one_more}
use Rattle.sched_draw.proofs.FirstLemmas.{stays_first}
use Rattle.sched_draw.proofs.PriorityLemmas.{drawn-next, first-below, watched-below}
use Rattle.sched_draw.proofs.priorities.ByPriorities.run_first.Goals as goal

pub steps-init : goal.steps-init
steps-init g c =
    let w = world g.S.Store.memory c.args.machine.now in
    let order = c.args.self.now.priorities.value.order.items in
    let first : c.first_running-hart.result ≡ first_running w.harts order =
    c.first_running-hart.ensures
    ∙ ap₂ first_running c.ends.ensures (c.deref-2.ensures.value ∙ ap (λ p. p.order.items) c.deref.ensures) in
    let ahead = c.requires.ahead in
    record {
      harts = refl;
      there = c.requires.there;
      hart = subst (λ h. h < length w.harts) (sym first) (first-below (length w.harts) w.harts order c.requires.some c.requires.there);
      first = λ is. first;
      goes = λ is. c.runs-goes.ensures ∙ ap (λ hs. runs hs c.first_running-hart.result) c.ends-2.ensures;
      points = refl;
      refusals = refl;
      begun = omega arith;
      moved = λ is. absurd (cc);
      within = omega (arith, ahead);
      ran = λ steps within all old so_far. so_far;
    }

pub steps-preserved : goal.steps-preserved
steps-preserved g c =
    let before = world g.S.Store.memory c.steps.machine in
    let after = world g.S.Store.memory c.step.new.self in
    let begun = c.steps.invariant.begun in
    let below = c.if-step-to.true in
    let first = c.steps.invariant.first c.steps-test.true in
    let quiet : is_point c.steps.step c.steps.self.priorities.value.points.items ≡ false =
    ap (is_point c.steps.step) c.steps.invariant.points ∙ c.requires.quiet c.steps.step begun below in
    let state = c.in_ok-choice.ensures.state c.steps.step quiet in
    record {
      harts = c.step.ensures.harts ∙ c.steps.invariant.harts;
      there = subst (λ k. All (λ h. h < k) c.go_on.new.self.priorities.value.order.items) (sym c.step.ensures.harts)
          (subst (λ (e : WatchedDrawing). All (λ h. h < length before.harts) e.drawing.order) (sym state)
          (watched-below (length before.harts) c.steps.step before (drawing_watched c.steps.self) (omega (arith, c.steps.invariant.hart))
          c.steps.invariant.there));
      hart = subst (λ k. c.first_running-hart.result < k) (sym c.step.ensures.harts) c.steps.invariant.hart;
      first = λ is.
          stays_first before after c.in_ok-choice.choice c.first_running-hart.result c.runs-goes.result
          c.steps.self.priorities.value.order.items c.go_on.new.self.priorities.value.order.items
          c.in_ok-step.ensures.ok c.in_ok-choice.ensures.of_hart first (c.steps.invariant.goes c.steps-test.true)
          (ap (λ hs. runs hs c.first_running-hart.result) (sym c.ends-in-steps.ensures) ∙ c.goes_on-stays.ensures.same is)
          (c.in_ok-choice.ensures.order (c.goes_on-stays.ensures.awake is));
      goes = λ is. sym (ap (λ hs. runs hs c.first_running-hart.result) (sym c.ends-in-steps.ensures) ∙ c.goes_on-stays.ensures.same is);
      points = c.in_ok-choice.ensures.points ∙ c.steps.invariant.points;
      refusals = c.in_ok-choice.ensures.refusals ∙ c.steps.invariant.refusals;
      begun = omega (arith, begun);
      moved = λ is. omega (arith, begun);
      within = omega (arith, below);
      ran = λ steps within all old so_far.
          let n = steps - (c.steps.step + 1) in
          let more : steps - c.steps.step ≡ n + 1 = omega (arith, within, below) in
          one_more all
          (priority_choices_drawn c.steps.self.refusals c.steps.step (steps - c.steps.step) (drawing_watched c.steps.self) before)
          (priority_choices_drawn c.go_on.new.self.refusals (c.steps.step + 1) n (drawing_watched c.go_on.new.self) after)
          old before after (harts_of c.steps.chosen) (harts_of c.add.new.self) c.in_ok-choice.choice
          (ap (λ k. priority_choices_drawn c.steps.self.refusals c.steps.step k (drawing_watched c.steps.self) before) more
          ∙ drawn-next c.steps.self.refusals c.steps.step n (drawing_watched c.steps.self) (drawing_watched c.go_on.new.self) before
          c.in_ok-choice.choice c.in_ok-choice.ensures.choice state
          ∙ ap₂ (λ r w. c.in_ok-choice.choice ∷ priority_choices_drawn r (c.steps.step + 1) n (drawing_watched c.go_on.new.self) w)
          (sym c.in_ok-choice.ensures.refusals) (sym c.in_ok-step.ensures.ok))
          c.in_ok-step.ensures.ok
          (c.add.ensures ∙ ap (λ h. with_hart (harts_of c.steps.chosen) h) (sym c.in_ok-choice.ensures.of_hart))
          (c.steps.invariant.ran steps within all old so_far);
    }
