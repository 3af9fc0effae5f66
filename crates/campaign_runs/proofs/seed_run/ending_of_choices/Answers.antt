use Rattle.std.proofs.Common.{◌≡◌, ◌<◌, IfOk, length, rules, ap, subst, sym, ◌∙◌}
use Rattle.std.proofs.lemmas.Grind.{common_steps}
use Rattle.std.specs.List.{All}
use Rattle.machine.specs.State.{state}
use Rattle.machine.specs.World.{World, run}
use Rattle.machine.specs.declared.choice.Choice.{Choice}
use Rattle.run_hangs.proofs.StepLemmas.{harts_stay}
use Rattle.campaign_runs.specs.Ending.{ending_of}
use Rattle.campaign_runs.specs.Runs.{ending_after}
use Rattle.campaign_runs.proofs.JudgedLemmas.{ending-judged}
use Rattle.campaign_runs.proofs.seed_run.ending_of_choices.Goals as goal

pub judge_run-requires : goal.judge_run-requires
judge_run-requires g c =
    subst (λ n. All (λ (x : Choice). x.hart < n) c.args.choices.now)
    (sym (ap (λ (w : World). length w.harts) c.in_ok-machine.ensures ∙ c.requires.there)) c.requires.within

pub ending_left-requires-clause-there : goal.ending_left-requires-clause-there
ending_left-requires-clause-there g c =
    harts_stay _ _ _ _ c.in-Ok.ensures.ran
    (ap (λ (w : World). length w.harts) c.in_ok-machine.ensures ∙ c.requires.there ∙ sym c.harts.ensures.harts)

pub returns : goal.returns
returns g c =
    let begun = state c.in_ok-machine.machine in
    subst (λ e. IfOk c.ending_left.result (λ ending. ending_of ending ≡ e))
    (ending-judged c.args.campaign c.args.inputs.now c.harts.result begun (state c.judge_run.new.machine)
    c.args.choices.now c.of-outcome.result c.deref.result.now c.harts.ensures.harts c.in-Ok.ensures.ran (search rules)
    (search (c.deref_mut.ensures.writes_back, c.in-Ok.ensures.judged, rules, common_steps))
    ∙ ap (λ w. ending_after w c.args.campaign c.args.inputs.now c.args.choices.now) c.in_ok-machine.ensures)
    c.ending_left.ensures
