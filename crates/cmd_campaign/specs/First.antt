-- The first seeds of a campaign, where it ends before all are done.
use Rattle.std.specs.Prelude.{◌≡◌, ◌≤◌, ℕ, List}
use Rattle.image.specs.Image.{ImageValue}
use Rattle.campaign_runs.specs.Runs.{SeedEnding, all_endings}
use Rattle.campaign_runs.specs.declared.campaign.Campaign.{Campaign}

-- the campaign of the first seeds alone, so many of them
abbrev pub first_seeds : ℕ → Campaign → Campaign
first_seeds seeds campaign = record {
  first = campaign.first;
  count = seeds;
  steps = campaign.steps;
  draw = campaign.draw;
  expect = campaign.expect;
  properties = campaign.properties;
  hangs = campaign.hangs;
  words = campaign.words;
  report = campaign.report;
  form = campaign.form;
}

-- these seeds with the endings of their runs
abbrev pub first_endings : ℕ → Campaign → ImageValue → List ℕ → List SeedEnding
first_endings seeds campaign image inputs = all_endings (first_seeds seeds campaign) image inputs

-- it holds of some number of first seeds; of all, if no limit may end the campaign
abbrev pub ForFirst : Type 0 → ℕ → (ℕ → Type 0) → Type 0
ForFirst never count P = (seeds : ℕ) × ((seeds ≤ count) × ((never → seeds ≡ count) × P seeds))
