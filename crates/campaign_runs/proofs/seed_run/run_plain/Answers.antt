use Rattle.std.proofs.Common.{length, ap, sym, ◌∙◌}
use Rattle.machine.specs.World.{World}
use Rattle.run_hangs.proofs.StepLemmas.{harts_stay}
use Rattle.campaign_runs.proofs.RunLemmas.{ending-copied}
use Rattle.campaign_runs.proofs.seed_run.run_plain.Goals as goal

pub run_schedule-requires-clause-there : goal.run_schedule-requires-clause-there
run_schedule-requires-clause-there g c = ap (λ (w : World). length w.harts) c.in_ok-machine.ensures ∙ c.requires.there ∙ sym c.harts.ensures.harts

pub ending_left-requires-clause-there : goal.ending_left-requires-clause-there
ending_left-requires-clause-there g c =
    harts_stay _ _ _ _ c.in_ok-chosen.ensures.0
    (ap (λ (w : World). length w.harts) c.in_ok-machine.ensures ∙ c.requires.there ∙ sym c.harts-2.ensures.harts)

pub returns : goal.returns
returns g c =
    ending-copied c.args.campaign c.args.inputs.now c.args.seed _ _ _ _ _ _ _ c.requires.none
    c.in_ok-machine.ensures (rw c.harts.ensures.harts at c.in_ok-chosen.ensures) c.ends.ensures (rw c.words.ensures.same at c.in_ok-outcome.ensures)
    (rw c.harts-2.ensures.harts at c.in_ok-ending.ensures)
