use Rattle.std.proofs.Common.{◌-◌, arith, ap, sym, subst, ◌∙◌}
use Rattle.machine.specs.Machine.{world}
use Rattle.sched_run.specs.Chosen.{harts_of}
use Rattle.sched_draw.specs.Bursts.{BurstDrawing, burst_choices_drawn}
use Rattle.sched_draw.specs.Partway.{Partway}
use Rattle.sched_draw.proofs.BurstLemmas.{drawn-again, in_burst-harts}
use Rattle.sched_draw.proofs.bursts.BurstsChooser.run.Goals as goal

pub run_begun-requires-clause-is_for : goal.run_begun-requires-clause-is_for
run_begun-requires-clause-is_for g c =
    ap (λ (d : BurstDrawing). d.harts) c.begin_burst.ensures.state ∙ in_burst-harts c.bursts.self ∙ c.bursts.invariant.is_for

pub bursts-preserved : goal.bursts-preserved
bursts-preserved g c =
    let begun = c.bursts.invariant.begun in
    let within = c.bursts.invariant.within in
    let least = c.min.ensures in
    record {
      harts = c.in_ok-run_begun.ensures.harts ∙ c.bursts.invariant.harts;
      is_for = c.in_ok-run_begun.ensures.stays ∙ sym c.in_ok-run_begun.ensures.harts;
      begun = omega (arith, begun);
      within = omega (arith, within, least);
      ran = λ steps enough all old so_far.
          c.in_ok-run_begun.ensures.ran steps (omega (arith, within, least, enough)) all old
          (subst (λ cs. Partway all cs old (world g.S.Store.memory c.bursts.machine) (harts_of c.bursts.chosen))
          (sym (ap (burst_choices_drawn (steps - c.bursts.step)) c.begin_burst.ensures.state ∙ drawn-again (steps - c.bursts.step) c.bursts.self))
          (c.bursts.invariant.ran steps enough all old so_far));
    }
