-- The lines of outcomes, and the whole report of runs.
use Rattle.std.specs.Prelude.{ℕ, List, [], ◌∷◌, ◌++◌, codes}
use Rattle.std.specs.Fmt.{decimal}
use Rattle.std.specs.List.{flat_map}
use Rattle.outcome.specs.declared.expect.Exit.{Exit}
use Rattle.cmd_form.specs.declared.form.Form.{Form}
use Rattle.cmd_form.specs.declared.form.Form.TheVariants.{Text, Json}
use Rattle.campaign_runs.specs.Runs.{SeedEnding}
use Rattle.campaign_runs.specs.Tally.{TallyRow, tally_of}
use Rattle.campaign_runs.specs.declared.campaign.Report.{Report}
use Rattle.campaign_runs.specs.declared.campaign.Report.TheVariants.{Lines, Failures, Summary, Outcomes, Causes}
use Rattle.campaign_runs.specs.declared.tally.SeedCount.{SeedCount}
use Rattle.cmd_campaign.specs.Lines.{count_members, report_entries, verdict_member, verdict_word}

-- an outcome's line, without verdict and LF: the number of its seeds, the first of them, and the
-- number of harts that have exited, have faulted, and run
abbrev pub row_line : SeedCount → ℕ → ℕ → ℕ → List ℕ
row_line count exited faulted running =
    codes "seeds " ++ (decimal count.seeds ++ (codes " first " ++ (decimal count.first
    ++ (codes " exited " ++ (decimal exited ++ (codes " faulted " ++ (decimal faulted
    ++ (codes " running " ++ decimal running))))))))

-- an outcome's object as far as the verdict: `{"seeds":98,"first":0,"exited":2,"faulted":0,"running":0`
abbrev pub row_object : SeedCount → ℕ → ℕ → ℕ → List ℕ
row_object count exited faulted running =
    codes "{\"seeds\":" ++ (decimal count.seeds ++ (codes ",\"first\":" ++ (decimal count.first
    ++ (codes "," ++ count_members exited faulted running))))

-- an outcome's line with its end, in this form
abbrev pub row_entry : Form → TallyRow → List ℕ
row_entry Text row =
    row_line row.count row.ending.outcome.exited row.ending.outcome.faulted row.ending.outcome.running
    ++ (verdict_word row.ending.outcome.verdict ++ (row.ending.words ++ 10 ∷ []))
row_entry Json row =
    row_object row.count row.ending.outcome.exited row.ending.outcome.faulted row.ending.outcome.running
    ++ (verdict_member row.ending.outcome.verdict ++ (row.ending.words ++ codes "}\n"))

-- the lines of outcomes
abbrev pub rows_text : Form → List TallyRow → List ℕ
rows_text form rows = flat_map (row_entry form) rows

-- the runs that a report counts by their outcomes
abbrev pub counted_of : Report → List SeedEnding → List SeedEnding
counted_of Lines ends = []
counted_of Failures ends = []
counted_of Summary ends = ends
counted_of Outcomes ends = ends
counted_of Causes ends = ends

-- the whole report of runs: their lines, those of the failed ones, or a line for each outcome in
-- the order of their first seeds
abbrev pub report_text : Form → Report → Exit → List SeedEnding → List ℕ
report_text form Lines exit ends = report_entries form Lines exit ends
report_text form Failures exit ends = report_entries form Failures exit ends
report_text form Summary exit ends = rows_text form (tally_of ends)
report_text form Outcomes exit ends = rows_text form (tally_of ends)
report_text form Causes exit ends = rows_text form (tally_of ends)

-- a report is written once all runs are done
abbrev pub IsSummary : Report → Type 0
IsSummary Lines = ⊥
IsSummary Failures = ⊥
IsSummary Summary = Unit {0}
IsSummary Outcomes = Unit {0}
IsSummary Causes = Unit {0}
