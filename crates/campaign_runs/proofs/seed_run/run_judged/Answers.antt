use Rattle.std.proofs.Common.{ap, sym, ◌∙◌}
use Rattle.machine.specs.State.{state}
use Rattle.campaign_runs.specs.Runs.{ending_after}
use Rattle.campaign_runs.proofs.RunLemmas.{ending-listed}
use Rattle.campaign_runs.proofs.seed_run.run_judged.Goals as goal

pub list_seed-requires-clause-there : goal.list_seed-requires-clause-there
list_seed-requires-clause-there g c = c.requires.there ∙ sym c.harts.ensures.harts

pub returns : goal.returns
returns g c =
    ending-listed c.args.campaign c.args.inputs.now c.args.seed (state c.args.start.now) c.in_ok-choices.choices.items _
    (rw c.harts.ensures.harts at c.in_ok-choices.ensures.drawn)
    (c.in_ok-end.ensures ∙ ap (ending_after (state c.args.start.now) c.args.campaign c.args.inputs.now) c.deref.ensures.value)
