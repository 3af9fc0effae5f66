-- What is reported of a campaign's runs.
use Rattle.std.specs.Prelude.{Bool, true, false, Option, Some, None}
use Rattle.campaign_runs.specs.declared.campaign.Report.{Report}
use Rattle.campaign_runs.specs.declared.campaign.Report.TheVariants as reports

-- the report that the options for failures, a summary, outcomes and causes ask for, if they go
-- together
abbrev pub report_of : Bool → Bool → Bool → Bool → Option Report
report_of false false false false = Some reports.Lines
report_of true false false false = Some reports.Failures
report_of false true false false = Some reports.Summary
report_of false true true false = Some reports.Outcomes
report_of false true false true = Some reports.Causes
report_of failures summary outcomes by_cause = None
