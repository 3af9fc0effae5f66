-- The ending of a run whose properties were judged.
use Rattle.std.proofs.Common.{◌≡◌, ℕ, List, length, ap, ◌∙◌}
use Rattle.machine.specs.World.{World, run}
use Rattle.machine.specs.declared.choice.Choice.{Choice}
use Rattle.outcome.specs.Expect.{judged}
use Rattle.outcome.specs.declared.run_outcome.Outcome.{Outcome}
use Rattle.property_judge.specs.declared.judged.Judged.{Judged}
use Rattle.campaign_runs.specs.Hangs.{ending_left}
use Rattle.campaign_runs.specs.Properties.{judged_over}
use Rattle.campaign_runs.specs.Runs.{ending_after}
use Rattle.campaign_runs.specs.declared.campaign.Campaign.{Campaign}

-- the ending of the run of a list, by its parts
pub ending-judged : (campaign : Campaign) (inputs : List ℕ) (n : ℕ) (v w : World) (choices : List Choice) (outcome : Outcome) (js : List Judged)
    → n ≡ length inputs → w ≡ run v choices → outcome ≡ judged campaign.expect.rule inputs choices w.harts
    → js ≡ judged_over campaign.properties v choices → ending_left campaign n outcome js w ≡ ending_after v campaign inputs choices
ending-judged campaign inputs n v w choices outcome js many ran says judges =
    ap (λ m. ending_left campaign m outcome js w) many
    ∙ ap (λ o. ending_left campaign (length inputs) o js w) says
    ∙ ap (λ each. ending_left campaign (length inputs) (judged campaign.expect.rule inputs choices w.harts) each w) judges
    ∙ ap (λ (x : World). ending_left campaign (length inputs) (judged campaign.expect.rule inputs choices x.harts) (judged_over campaign.properties v choices) x) ran
