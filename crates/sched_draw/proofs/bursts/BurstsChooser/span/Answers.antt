use Rattle.std.proofs.Common.{◌<◌, get_or, arith, sym, subst}
use Rattle.sched_draw.specs.Bursts.{BurstDrawing, burst_choices_drawn}
use Rattle.sched_draw.proofs.BurstLemmas.{drawn_within}
use Rattle.sched_draw.proofs.bursts.BurstsChooser.span.Goals as goal

pub returns-clause-among : goal.returns-clause-among
returns-clause-among c = λ step n w i choice below.
    let drawn = burst_choices_drawn n c.args.self.now in
    let there = subst (λ (d : BurstDrawing). d.hart < d.harts) c.self.view_is c.self.invariant.0 in (
      omega arith,
      subst (λ (d : BurstDrawing). (get_or drawn i choice).hart < d.harts) (sym c.self.view_is)
          (drawn_within n c.args.self.now there i choice below),
    )
