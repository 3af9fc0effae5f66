-- How the run of each seed of a campaign ends.
use Rattle.std.specs.Prelude.{ℕ, List, length, map}
use Rattle.std.specs.List.{range_with_len}
use Rattle.image.specs.Image.{ImageValue}
use Rattle.machine.specs.World.{World, run}
use Rattle.machine.specs.Start.{started}
use Rattle.machine.specs.declared.choice.Choice.{Choice}
use Rattle.sched_draw.specs.Schedules.{drawn_choices}
use Rattle.outcome.specs.Expect.{judged}
use Rattle.campaign_runs.specs.Properties.{judged_over}
use Rattle.campaign_runs.specs.Ending.{EndingValue, ending_of}
use Rattle.campaign_runs.specs.Hangs.{ending_left}
use Rattle.campaign_runs.specs.declared.campaign.Campaign.{Campaign}
use Rattle.campaign_runs.specs.declared.seed_run.SeedEnd.{SeedEnd}

-- a seed, and how its run ended
pub record SeedEnding : Type 0 where
  pub seed : ℕ
  pub ending : EndingValue

-- the code's seed and ending as a `SeedEnding`
abbrev pub seed_ending : {Z : Type 0} → SeedEnd Z → SeedEnding
seed_ending end = record { seed = end.seed; ending = ending_of end.ending }

-- the ending of the run from a world over a list of choices
abbrev pub ending_after : World → Campaign → List ℕ → List Choice → EndingValue
ending_after world campaign inputs choices = ending_left campaign (length inputs)
    (judged campaign.expect.rule inputs choices (run world choices).harts)
    (judged_over campaign.properties world choices) (run world choices)

-- a seed, and the ending of the run from a world over the list of choices that the seed gives
unfoldable pub ending_from : World → Campaign → List ℕ → ℕ → SeedEnding
ending_from world campaign inputs seed = record {
  seed = seed;
  ending = ending_after world campaign inputs (drawn_choices campaign.draw world (length inputs) campaign.steps seed);
}

-- seeds with the endings of their runs from the start, in their order
unfoldable pub endings_of : Campaign → ImageValue → List ℕ → List ℕ → List SeedEnding
endings_of campaign image inputs seeds = map (ending_from (started image inputs) campaign inputs) seeds

-- all seeds of a campaign with the endings of their runs
abbrev pub all_endings : Campaign → ImageValue → List ℕ → List SeedEnding
all_endings campaign image inputs = endings_of campaign image inputs (range_with_len campaign.first campaign.count)
