-- The report of a campaign of an object says `kept` in each line.
use Rattle.std.proofs.Common.{◌≡◌, ℕ, ◌^◌, ◌<◌, Bool, true, false, cond, List, [], ◌∷◌, ◌++◌, codes, length, Some, Ok, Err, refl, ap, ap₂, ◌∙◌, sym, subst}
use Rattle.std.specs.List.{All, flat_map, range_with_len}
use Rattle.std.proofs.lemmas.List.Elements.{All-head, All-tail}
use Rattle.object_library.specs.declared.verdict.Verdict.TheVariants.{Kept}
use Rattle.outcome.specs.declared.expect.Exit.{Exit}
use Rattle.program_open.specs.declared.command_fault.CommandFault.{CommandFault}
use Rattle.program_open.specs.declared.command_fault.CommandFault.TheVariants as fault
use Rattle.program_open.specs.declared.program.ProgramForm.TheVariants as form
use Rattle.cmd_form.specs.declared.form.Form.{Form}
use Rattle.cmd_form.specs.declared.form.Form.TheVariants.{Text, Json}
use Rattle.campaign_runs.specs.Ending.{same_ending}
use Rattle.campaign_runs.specs.Properties.{no_properties}
use Rattle.campaign_runs.specs.Runs.{SeedEnding, all_endings}
use Rattle.campaign_runs.specs.Tally.{TallyRow, add_seed, one_more, tally_of, tally_onto}
use Rattle.campaign_runs.specs.declared.campaign.Campaign.{Campaign}
use Rattle.campaign_runs.specs.declared.campaign.Report.{Report}
use Rattle.campaign_runs.specs.declared.campaign.Report.TheVariants.{Lines, Failures, Summary, Outcomes, Causes}
use Rattle.cmd_run.specs.Certified.{IsCertified}
use Rattle.run_hangs.specs.declared.asked.Hangs.TheVariants.{Unasked}
use Rattle.cmd_campaign.specs.Answers.{after_image, campaign_answer}
use Rattle.cmd_campaign.specs.Kept.{kept_line, kept_row, AllKept, AnswersKeptLines}
use Rattle.cmd_campaign.specs.Lines.{end_entry, has_failed, report_entries, seed_line, seed_object, verdict_member, verdict_word}
use Rattle.cmd_campaign.specs.Status.{campaign_status}
use Rattle.cmd_campaign.specs.Summary.{report_text, row_entry, row_line, row_object, rows_text}
use Rattle.cmd_campaign.proofs.KeptLemmas.{all_kept, answered, lines_wordless, AllWordless, IsWordless, WordlessIn}

abbrev IsKept : SeedEnding → Type 0
IsKept end = end.ending.outcome.verdict ≡ Some Kept

-- ---- lines of seeds
line_kept : (form : Form) (end : SeedEnding) → IsKept end → IsWordless end → end_entry form end ≡ kept_line form end
line_kept Text end is none = ap₂ (λ v words. seed_line end.seed end.ending.outcome.exited end.ending.outcome.faulted end.ending.outcome.running
    ++ (verdict_word v ++ (words ++ 10 ∷ []))) is none
line_kept Json end is none = ap₂ (λ v words. seed_object end.seed end.ending.outcome.exited end.ending.outcome.faulted end.ending.outcome.running
    ++ (verdict_member v ++ (words ++ codes "}\n"))) is none

lines_kept : (form : Form) (ends : List SeedEnding) → AllKept ends → AllWordless ends
    → flat_map (end_entry form) ends ≡ flat_map (kept_line form) ends
lines_kept form [] all none = refl
lines_kept form (end ∷ ends) all none =
    ap₂ (λ (line rest : List ℕ). line ++ rest) (line_kept form end (All-head IsKept end ends all) (All-head IsWordless end ends none))
    (lines_kept form ends (All-tail IsKept end ends all) (All-tail IsWordless end ends none))

-- the lines of those that have failed
failures_kept : (form : Form) (exit : Exit) (ends : List SeedEnding) → AllKept ends → AllWordless ends
    → (some : List SeedEnding) × (report_entries form Failures exit ends ≡ flat_map (kept_line form) some)
failures_kept form exit [] all none = ([], refl)
failures_kept form exit (end ∷ ends) all none =
    by (has_failed exit end) refl (failures_kept form exit ends (All-tail IsKept end ends all) (All-tail IsWordless end ends none))
  where
    by : (b : Bool) → has_failed exit end ≡ b
        → (some : List SeedEnding) × (report_entries form Failures exit ends ≡ flat_map (kept_line form) some)
        → (some : List SeedEnding) × (report_entries form Failures exit (end ∷ ends) ≡ flat_map (kept_line form) some)
    by true e rest = (
      end ∷ rest.0,
      ap₂ (λ (line more : List ℕ). line ++ more)
          (ap (λ b. cond b (end_entry form end) []) e ∙ line_kept form end (All-head IsKept end ends all) (All-head IsWordless end ends none)) rest.1,
    )
    by false e rest = (rest.0, ap₂ (λ (line more : List ℕ). line ++ more) (ap (λ b. cond b (end_entry form end) []) e) rest.1)

-- ---- lines of outcomes
abbrev RowsKept : List TallyRow → Type 0
RowsKept [] = Unit {0}
RowsKept (row ∷ rows) = (row.ending.outcome.verdict ≡ Some Kept) × RowsKept rows

row_kept : (form : Form) (row : TallyRow) → row.ending.outcome.verdict ≡ Some Kept → row_entry form row ≡ kept_row form row
row_kept Text row is = ap (λ v. row_line row.count row.ending.outcome.exited row.ending.outcome.faulted row.ending.outcome.running
    ++ (verdict_word v ++ (row.ending.words ++ 10 ∷ []))) is
row_kept Json row is = ap (λ v. row_object row.count row.ending.outcome.exited row.ending.outcome.faulted row.ending.outcome.running
    ++ (verdict_member v ++ (row.ending.words ++ codes "}\n"))) is

rows_kept : (form : Form) (rows : List TallyRow) → RowsKept rows → rows_text form rows ≡ flat_map (kept_row form) rows
rows_kept form [] all = refl
rows_kept form (row ∷ rows) all =
    ap₂ (λ (line more : List ℕ). line ++ more) (row_kept form row all.0) (rows_kept form rows all.1)

add_kept : (end : SeedEnding) (rows : List TallyRow) → IsKept end → RowsKept rows → RowsKept (add_seed end rows)
add_kept end [] is all = (is, tt)
add_kept end (row ∷ rows) is all = by (same_ending end.ending row.ending) (add_kept end rows is all.1)
  where
    by : (b : Bool) → RowsKept (add_seed end rows)
        → RowsKept (cond b (record { ending = row.ending; count = one_more row.count } ∷ rows) (row ∷ add_seed end rows))
    by true rest = (all.0, all.1)
    by false rest = (all.0, rest)

onto_kept : (rows : List TallyRow) (ends : List SeedEnding) → RowsKept rows → AllKept ends → RowsKept (tally_onto rows ends)
onto_kept rows [] there all = there
onto_kept rows (end ∷ ends) there all =
    onto_kept (add_seed end rows) ends (add_kept end rows (All-head IsKept end ends all) there) (All-tail IsKept end ends all)

tally_kept : (form : Form) (ends : List SeedEnding) → AllKept ends
    → (rows : List TallyRow) × (rows_text form (tally_of ends) ≡ flat_map (kept_row form) rows)
tally_kept form ends all = (tally_of ends, rows_kept form (tally_of ends) (onto_kept [] ends tt all))

-- ---- the report
report_kept : (report : Report) (campaign : Campaign) (ends : List SeedEnding) → AllKept ends → WordlessIn report ends
    → AnswersKeptLines campaign.form report
    (Ok (report_text campaign.form report campaign.expect.exit ends, campaign_status campaign.expect.exit ends))
report_kept Lines campaign ends all none = (ends, lines_kept campaign.form ends all none)
report_kept Failures campaign ends all none = failures_kept campaign.form campaign.expect.exit ends all none
report_kept Summary campaign ends all none = tally_kept campaign.form ends all
report_kept Outcomes campaign ends all none = tally_kept campaign.form ends all
report_kept Causes campaign ends all none = tally_kept campaign.form ends all

refused_kept : (form : Form) (report : Report) (why : CommandFault) → AnswersKeptLines form report (Err why)
refused_kept form Lines why = tt
refused_kept form Failures why = tt
refused_kept form Summary why = tt
refused_kept form Outcomes why = tt
refused_kept form Causes why = tt

pub lines_say_kept : (campaign : Campaign) (inputs program : List ℕ) → campaign.properties ≡ no_properties → campaign.hangs ≡ Unasked
    → All (λ x. x < 2 ^ 32) inputs
    → IsCertified form.Elf program inputs campaign.expect.rule → AnswersKeptLines campaign.form campaign.report (campaign_answer campaign inputs program)
unfolding campaign_answer
lines_say_kept campaign inputs program bare unasked words h =
    subst (λ p. AnswersKeptLines campaign.form campaign.report (after_image campaign inputs p)) (sym h.reads)
    (answered (AnswersKeptLines campaign.form campaign.report) (length inputs) _ _ _ (refused_kept campaign.form campaign.report fault.NoHarts) (refused_kept campaign.form campaign.report fault.TooManyHarts) (λ some.
    report_kept campaign.report campaign (all_endings campaign h.image inputs)
    (all_kept h.kind h.image campaign inputs some h.same h.meant words h.ruled (range_with_len campaign.first campaign.count))
    (lines_wordless h.kind h.image campaign inputs some h.same h.meant words h.ruled bare unasked campaign.report refl (range_with_len campaign.first campaign.count))))
