-- Campaigns in which no rule is broken.
use Rattle.std.specs.Prelude.{◌≡◌, ℕ, List, [], ◌∷◌, ◌++◌, codes, Some}
use Rattle.std.specs.List.{All, flat_map}
use Rattle.std.specs.declared.result.Result.TheVariants.{Ok, Err}
use Rattle.byte_io.specs.declared.status.Status.TheVariants as status
use Rattle.program_open.specs.Answers.{Answer}
use Rattle.object_library.specs.declared.verdict.Verdict.TheVariants.{Kept}
use Rattle.cmd_form.specs.declared.form.Form.{Form}
use Rattle.cmd_form.specs.declared.form.Form.TheVariants.{Text, Json}
use Rattle.campaign_runs.specs.Runs.{SeedEnding}
use Rattle.campaign_runs.specs.Tally.{TallyRow}
use Rattle.campaign_runs.specs.declared.campaign.Report.{Report}
use Rattle.campaign_runs.specs.declared.campaign.Report.TheVariants.{Lines, Failures, Summary, Outcomes, Causes}
use Rattle.cmd_campaign.specs.Lines.{seed_line, seed_object}
use Rattle.cmd_campaign.specs.Summary.{row_line, row_object}

-- the verdict on each run is `kept`
abbrev pub AllKept : List SeedEnding → Type 0
AllKept ends = All (λ end. end.ending.outcome.verdict ≡ Some Kept) ends

-- if a campaign answers, it reports no run, and its status is 0
abbrev pub AnswersNothing : Answer → Type 0
AnswersNothing (Ok answer) = (answer.0 ≡ []) × (answer.1 ≡ status.Done)
AnswersNothing (Err why) = Unit {0}

-- the line of a seed, and that of an outcome, where the verdict is `kept`
abbrev pub kept_line : Form → SeedEnding → List ℕ
kept_line Text end =
    seed_line end.seed end.ending.outcome.exited end.ending.outcome.faulted end.ending.outcome.running ++ codes " kept\n"
kept_line Json end =
    seed_object end.seed end.ending.outcome.exited end.ending.outcome.faulted end.ending.outcome.running
    ++ codes ",\"verdict\":\"kept\"}\n"

abbrev pub kept_row : Form → TallyRow → List ℕ
kept_row Text row =
    row_line row.count row.ending.outcome.exited row.ending.outcome.faulted row.ending.outcome.running
    ++ (codes " kept" ++ (row.ending.words ++ 10 ∷ []))
kept_row Json row =
    row_object row.count row.ending.outcome.exited row.ending.outcome.faulted row.ending.outcome.running
    ++ (codes ",\"verdict\":\"kept\"" ++ (row.ending.words ++ codes "}\n"))

-- if a campaign answers, each line of its report says `kept`
abbrev pub AnswersKeptLines : Form → Report → Answer → Type 0
AnswersKeptLines form Lines (Ok answer) = (ends : List SeedEnding) × (answer.0 ≡ flat_map (kept_line form) ends)
AnswersKeptLines form Failures (Ok answer) = (ends : List SeedEnding) × (answer.0 ≡ flat_map (kept_line form) ends)
AnswersKeptLines form Summary (Ok answer) = (rows : List TallyRow) × (answer.0 ≡ flat_map (kept_row form) rows)
AnswersKeptLines form Outcomes (Ok answer) = (rows : List TallyRow) × (answer.0 ≡ flat_map (kept_row form) rows)
AnswersKeptLines form Causes (Ok answer) = (rows : List TallyRow) × (answer.0 ≡ flat_map (kept_row form) rows)
AnswersKeptLines form report (Err why) = Unit {0}
