-- The lines of schedules' runs.
use Rattle.std.specs.Prelude.{ℕ, Bool, true, false, List, [], ◌∷◌, ◌++◌, codes, if◌then◌else◌}
use Rattle.std.specs.Fmt.{decimal}
use Rattle.std.specs.List.{flat_map}
use Rattle.outcome.specs.declared.expect.Exit.{Exit}
use Rattle.campaign_bounded.specs.Walk.{Led}
use Rattle.campaign_runs.specs.Runs.{SeedEnding}
use Rattle.campaign_runs.specs.Tally.{TallyRow}
use Rattle.campaign_runs.specs.declared.campaign.Report.{Report}
use Rattle.campaign_runs.specs.declared.campaign.Report.TheVariants.{Lines, Failures, Summary, Outcomes, Causes}
use Rattle.campaign_runs.specs.declared.tally.SeedCount.{SeedCount}
use Rattle.cmd_form.specs.declared.form.Form.{Form}
use Rattle.cmd_form.specs.declared.form.Form.TheVariants.{Text, Json}
use Rattle.cmd_campaign.specs.Lines.{has_failed, verdict_member, verdict_word}
use Rattle.cmd_bounded.specs.declared.bounded.BoundedCampaign.{BoundedCampaign}

-- a schedule's line, without verdict and LF: harts that have exited, have faulted, and run
abbrev pub schedule_line : ℕ → ℕ → ℕ → ℕ → List ℕ
schedule_line number exited faulted running =
    codes "schedule " ++ (decimal number ++ (codes " exited " ++ (decimal exited
    ++ (codes " faulted " ++ (decimal faulted ++ (codes " running " ++ decimal running))))))

-- a schedule's object as far as the verdict: `{"schedule":5,"exited":2,"faulted":0,"running":0`
abbrev pub schedule_object : ℕ → ℕ → ℕ → ℕ → List ℕ
schedule_object number exited faulted running =
    codes "{\"schedule\":" ++ (decimal number ++ (codes ",\"exited\":" ++ (decimal exited
    ++ (codes ",\"faulted\":" ++ (decimal faulted ++ (codes ",\"running\":" ++ decimal running))))))

-- a schedule's line with its end, in this form
abbrev pub numbered_entry : Form → SeedEnding → List ℕ
numbered_entry Text end =
    schedule_line end.seed end.ending.outcome.exited end.ending.outcome.faulted end.ending.outcome.running
    ++ (verdict_word end.ending.outcome.verdict ++ (end.ending.words ++ 10 ∷ []))
numbered_entry Json end =
    schedule_object end.seed end.ending.outcome.exited end.ending.outcome.faulted end.ending.outcome.running
    ++ (verdict_member end.ending.outcome.verdict ++ (end.ending.words ++ codes "}\n"))

-- what a report has of a run beside the lines of outcomes
abbrev pub schedule_part : Form → Report → Exit → SeedEnding → List ℕ
schedule_part form Lines exit end = numbered_entry form end
schedule_part form Failures exit end = if has_failed exit end then numbered_entry form end else []
schedule_part form Summary exit end = []
schedule_part form Outcomes exit end = []
schedule_part form Causes exit end = []

-- what it has of runs, in order
abbrev pub schedule_parts : Form → Report → Exit → List SeedEnding → List ℕ
schedule_parts form report exit ends = flat_map (schedule_part form report exit) ends

-- an outcome's line, without verdict and LF: the number of its schedules, the first of them, and
-- the number of harts that have exited, have faulted, and run
abbrev pub schedules_line : SeedCount → ℕ → ℕ → ℕ → List ℕ
schedules_line count exited faulted running =
    codes "schedules " ++ (decimal count.seeds ++ (codes " first " ++ (decimal count.first
    ++ (codes " exited " ++ (decimal exited ++ (codes " faulted " ++ (decimal faulted
    ++ (codes " running " ++ decimal running))))))))

-- an outcome's object as far as the verdict: `{"schedules":98,"first":0,"exited":2,"faulted":0,"running":0`
abbrev pub schedules_object : SeedCount → ℕ → ℕ → ℕ → List ℕ
schedules_object count exited faulted running =
    codes "{\"schedules\":" ++ (decimal count.seeds ++ (codes ",\"first\":" ++ (decimal count.first
    ++ (codes ",\"exited\":" ++ (decimal exited ++ (codes ",\"faulted\":" ++ (decimal faulted
    ++ (codes ",\"running\":" ++ decimal running))))))))

-- an outcome's line with its end, in this form
abbrev pub schedules_entry : Form → TallyRow → List ℕ
schedules_entry Text row =
    schedules_line row.count row.ending.outcome.exited row.ending.outcome.faulted row.ending.outcome.running
    ++ (verdict_word row.ending.outcome.verdict ++ (row.ending.words ++ 10 ∷ []))
schedules_entry Json row =
    schedules_object row.count row.ending.outcome.exited row.ending.outcome.faulted row.ending.outcome.running
    ++ (verdict_member row.ending.outcome.verdict ++ (row.ending.words ++ codes "}\n"))

-- the lines of outcomes
abbrev pub schedules_entries : Form → List TallyRow → List ℕ
schedules_entries form rows = flat_map (schedules_entry form) rows

-- whether no schedule is left
abbrev pub nothing_left : List Led → Bool
nothing_left [] = true
nothing_left (led ∷ more) = false

-- the same in words
abbrev pub left_words : Bool → List ℕ
left_words none = if none then codes "none is left" else codes "more are left"

-- what is covered: so many schedules from the first on, within the bounds
abbrev pub covered_words : ℕ → ℕ → ℕ → ℕ → List ℕ
covered_words count first preemptions steps =
    codes "covered " ++ (decimal count ++ (codes " schedules from " ++ (decimal first
    ++ (codes " on, with at most " ++ (decimal preemptions
    ++ (codes " preemptions and " ++ (decimal steps ++ codes " choices")))))))

-- the same as an object of JSON: `{"covered":2,"first":1,"preemptions":1,"choices":40`
abbrev pub covered_object : ℕ → ℕ → ℕ → ℕ → List ℕ
covered_object count first preemptions steps =
    codes "{\"covered\":" ++ (decimal count ++ (codes ",\"first\":" ++ (decimal first
    ++ (codes ",\"preemptions\":" ++ (decimal preemptions ++ (codes ",\"choices\":" ++ decimal steps))))))

-- whether schedules are left, as a member behind a comma
abbrev pub left_member : Bool → List ℕ
left_member none = if none then codes ",\"more_left\":false" else codes ",\"more_left\":true"

-- the last line in this form, given whether no schedule is left
abbrev pub covered_entry : Form → BoundedCampaign → ℕ → Bool → List ℕ
covered_entry Text campaign count none =
    covered_words count campaign.first campaign.preemptions campaign.steps
    ++ (codes "; " ++ (left_words none ++ 10 ∷ []))
covered_entry Json campaign count none =
    covered_object count campaign.first campaign.preemptions campaign.steps
    ++ (left_member none ++ codes "}\n")

-- the last line: what is covered, and whether others are left
abbrev pub covered_line : BoundedCampaign → ℕ → List Led → List ℕ
covered_line campaign count left = covered_entry campaign.form campaign count (nothing_left left)
