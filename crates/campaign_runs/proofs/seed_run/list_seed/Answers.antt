use Rattle.std.proofs.Common.{◌<◌, length, ap, subst, sym, ◌∙◌}
use Rattle.std.specs.List.{All}
use Rattle.machine.specs.World.{World}
use Rattle.machine.specs.declared.choice.Choice.{Choice}
use Rattle.sched_draw.specs.Schedules.{drawn_choices}
use Rattle.sched_draw.proofs.ChoiceLemmas.{drawn_choices-within}
use Rattle.campaign_runs.proofs.seed_run.list_seed.Goals as goal

pub list_run-requires-clause-there : goal.list_run-requires-clause-there
list_run-requires-clause-there g c = ap (λ (w : World). length w.harts) c.in_ok-machine.ensures ∙ c.requires.there

pub returns-clause-drawn : goal.returns-clause-drawn
returns-clause-drawn g c =
    c.in_ok-choices.ensures ∙ ap (λ w. drawn_choices c.args.campaign.draw w c.args.harts c.args.campaign.steps c.args.seed) c.in_ok-machine.ensures

pub returns-clause-within : goal.returns-clause-within
returns-clause-within g c =
    subst (All (λ (x : Choice). x.hart < c.args.harts)) (sym c.in_ok-choices.ensures)
    (drawn_choices-within c.args.campaign.draw _ c.args.harts c.args.campaign.steps c.args.seed c.requires.some)
