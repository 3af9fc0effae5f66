-- What is reported of runs so far.
use Rattle.std.specs.Prelude.{◌≡◌, ℕ, Bool, false, ◌||◌, List, [], ◌++◌, take, drop, length, Option, Some, None, string_bytes, if◌then◌else◌}
use Rattle.machine.specs.World.{World}
use Rattle.outcome.specs.declared.expect.Exit.{Exit}
use Rattle.campaign_bounded.specs.Walk.{Led}
use Rattle.cmd_form.specs.declared.form.Form.{Form}
use Rattle.campaign_runs.specs.Ending.{ending_breaks}
use Rattle.campaign_runs.specs.Runs.{SeedEnding}
use Rattle.campaign_runs.specs.Tally.{TallyRow, add_seed, tally_onto, tally_rows}
use Rattle.campaign_runs.specs.declared.campaign.Report.{Report}
use Rattle.campaign_runs.specs.declared.campaign.Report.TheVariants.{Lines, Failures, Summary, Outcomes, Causes}
use Rattle.cmd_campaign.specs.Lines.{has_failed}
use Rattle.cmd_campaign.specs.Status.{any_breaks, first_failure, first_or}
use Rattle.cmd_campaign.specs.Summary.{counted_of}
use Rattle.cmd_bounded.specs.Lines.{schedule_part, schedule_parts}
use Rattle.cmd_bounded.specs.Runs.{endings_from}
use Rattle.cmd_bounded.specs.declared.bounded.BoundedCampaign.{BoundedCampaign}
use Rattle.cmd_bounded.specs.declared.told.Told.{Told}

-- the text and the rows so far, whether a rule is broken, and the first failure
pub record ToldValue : Type 0 where
  pub text : List ℕ
  pub rows : List TallyRow
  pub is_broken : Bool
  pub first_failure : Option ℕ

-- the code's `Told` as a `ToldValue`
abbrev pub told_value : {Z : Type 0} → Told Z → ToldValue
told_value told = record {
  text = string_bytes told.text;
  rows = tally_rows told.tally;
  is_broken = told.is_broken;
  first_failure = told.first_failure;
}

-- no run is done
abbrev pub nothing_told : ToldValue
nothing_told = record { text = []; rows = []; is_broken = false; first_failure = None }

-- the rows with one more run, if the report counts runs
abbrev pub rows_with : Report → List TallyRow → SeedEnding → List TallyRow
rows_with Lines rows end = rows
rows_with Failures rows end = rows
rows_with Summary rows end = add_seed end rows
rows_with Outcomes rows end = add_seed end rows
rows_with Causes rows end = add_seed end rows

-- the number of a run that has failed
abbrev pub failed_number : Exit → SeedEnding → Option ℕ
failed_number exit end = if has_failed exit end then Some end.seed else None

-- one more run
abbrev pub told_with : Form → Report → Exit → ToldValue → SeedEnding → ToldValue
told_with form report exit told end = record {
  text = told.text ++ schedule_part form report exit end;
  rows = rows_with report told.rows end;
  is_broken = told.is_broken || ending_breaks end.ending;
  first_failure = first_or told.first_failure (failed_number exit end);
}

-- more runs
abbrev pub told_after : Form → Report → Exit → ToldValue → List SeedEnding → ToldValue
told_after form report exit told ends = record {
  text = told.text ++ schedule_parts form report exit ends;
  rows = tally_onto told.rows (counted_of report ends);
  is_broken = told.is_broken || any_breaks ends;
  first_failure = first_or told.first_failure (first_failure exit ends);
}

-- the runs over the schedules of a range are told, and their number is given; the others are left
pub record TellsRange (campaign : BoundedCampaign) (start : World) (inputs : List ℕ) (old : List Led) (count : ℕ) (before after : ToldValue) (new : List Led) : Type 0 where
  pub told : after ≡ told_after campaign.form campaign.report campaign.expect.exit before
      (endings_from campaign start inputs campaign.first (take campaign.count old))
  pub number : count ≡ length (take campaign.count old)
  pub left : new ≡ drop campaign.count old
