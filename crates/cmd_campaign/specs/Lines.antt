-- The lines of runs.
use Rattle.std.specs.Prelude.{ℕ, Bool, List, [], ◌∷◌, ◌++◌, codes, Option, Some, None, if◌then◌else◌}
use Rattle.std.specs.Fmt.{decimal}
use Rattle.std.specs.List.{flat_map}
use Rattle.object_library.specs.declared.verdict.Verdict.{Verdict}
use Rattle.object_library.specs.Names.{verdict_name}
use Rattle.outcome.specs.declared.expect.Exit.{Exit}
use Rattle.cmd_form.specs.declared.form.Form.{Form}
use Rattle.cmd_form.specs.declared.form.Form.TheVariants.{Text, Json}
use Rattle.campaign_runs.specs.Ending.{ending_fails}
use Rattle.campaign_runs.specs.Runs.{SeedEnding}
use Rattle.campaign_runs.specs.declared.campaign.Report.{Report}
use Rattle.campaign_runs.specs.declared.campaign.Report.TheVariants.{Lines, Failures, Summary, Outcomes, Causes}

-- a seed's line, without verdict and LF: harts that have exited, have faulted, and run
abbrev pub seed_line : ℕ → ℕ → ℕ → ℕ → List ℕ
seed_line seed exited faulted running =
    codes "seed " ++ (decimal seed ++ (codes " exited " ++ (decimal exited
    ++ (codes " faulted " ++ (decimal faulted ++ (codes " running " ++ decimal running))))))

-- a verdict's word in a line
abbrev pub verdict_word : Option Verdict → List ℕ
verdict_word None = []
verdict_word (Some verdict) = codes " " ++ verdict_name verdict

-- the number of harts that have exited, have faulted, and run, as members of JSON
abbrev pub count_members : ℕ → ℕ → ℕ → List ℕ
count_members exited faulted running =
    codes "\"exited\":" ++ (decimal exited ++ (codes ",\"faulted\":" ++ (decimal faulted
    ++ (codes ",\"running\":" ++ decimal running))))

-- a seed's object as far as the verdict: `{"seed":5,"exited":2,"faulted":0,"running":0`
abbrev pub seed_object : ℕ → ℕ → ℕ → ℕ → List ℕ
seed_object seed exited faulted running =
    codes "{\"seed\":" ++ (decimal seed ++ (codes "," ++ count_members exited faulted running))

-- a verdict as a member behind a comma
abbrev pub verdict_member : Option Verdict → List ℕ
verdict_member None = codes ",\"verdict\":null"
verdict_member (Some verdict) = codes ",\"verdict\":\"" ++ (verdict_name verdict ++ codes "\"")

-- a run's line with its end, in this form
abbrev pub end_entry : Form → SeedEnding → List ℕ
end_entry Text end =
    seed_line end.seed end.ending.outcome.exited end.ending.outcome.faulted end.ending.outcome.running
    ++ (verdict_word end.ending.outcome.verdict ++ (end.ending.words ++ 10 ∷ []))
end_entry Json end =
    seed_object end.seed end.ending.outcome.exited end.ending.outcome.faulted end.ending.outcome.running
    ++ (verdict_member end.ending.outcome.verdict ++ (end.ending.words ++ codes "}\n"))

-- whether the run of a seed has failed
abbrev pub has_failed : Exit → SeedEnding → Bool
has_failed exit end = ending_fails exit end.ending

-- what a report has of a run while the runs go on
abbrev pub report_entry : Form → Report → Exit → SeedEnding → List ℕ
report_entry form Lines exit end = end_entry form end
report_entry form Failures exit end = if has_failed exit end then end_entry form end else []
report_entry form Summary exit end = []
report_entry form Outcomes exit end = []
report_entry form Causes exit end = []

-- what a report has of runs while they go on, in order
abbrev pub report_entries : Form → Report → Exit → List SeedEnding → List ℕ
report_entries form report exit ends = flat_map (report_entry form report exit) ends
