-- What a report has of runs while they go on, and at the end.
use Rattle.std.proofs.Common.{⊎_elim, ◌≡◌, ℕ, zero, suc, ◌+◌, ◌<◌, ◌≤◌, List, [], ◌∷◌, ◌++◌, length, take, Option, Some, None, append-nil, refl, rules, Result, Ok, Err, IfOk, ◌⊎◌, inl, inr, arith, ap, sym, subst, ◌∙◌}
use Rattle.std.proofs.KnownBytes.{Appends-nil, Appends-trans}
use Rattle.std.proofs.Math.Seq.{take-append-add, take-append_seam}
use Rattle.std.proofs.lemmas.Bool.{cases_lt}
use Rattle.std.proofs.lemmas.Grind.{common_steps}
use Rattle.std.proofs.lemmas.List.{take-append-le}
use Rattle.std.specs.Io.KnownBytes.{Appends, Keeps}
use Rattle.program_open.specs.Answers.{Begins}
use Rattle.outcome.specs.declared.expect.Exit.{Exit}
use Rattle.cmd_form.specs.declared.form.Form.{Form}
use Rattle.image.specs.Image.{ImageValue}
use Rattle.campaign_runs.specs.Runs.{SeedEnding, all_endings}
use Rattle.campaign_runs.specs.Tally.{TallyRow, tally_of}
use Rattle.campaign_runs.specs.declared.campaign.Campaign.{Campaign}
use Rattle.campaign_runs.specs.declared.campaign.Report.{Report}
use Rattle.campaign_runs.specs.declared.campaign.Report.TheVariants.{Lines, Failures, Summary, Outcomes, Causes}
use Rattle.cmd_campaign.specs.First.{first_endings, ForFirst}
use Rattle.cmd_campaign.specs.Lines.{report_entries}
use Rattle.cmd_campaign.specs.Summary.{counted_of, report_text, rows_text, IsSummary}
use Rattle.cmd_campaign.proofs.FirstLemmas.{first_of_all}

-- ---- beginnings of texts
-- what is appended is also a beginning of anything that goes on after it
pub begins_at : (old now : Option (List ℕ)) (xs rest : List ℕ) → Appends old now xs → Begins (xs ++ rest) old now
begins_at old now xs rest h =
    (length xs, subst (λ bytes. Appends old now bytes) (sym (take-append_seam xs rest)) h)

take_within : (n : ℕ) (ys : List ℕ) → (m : ℕ) × ((m ≤ length ys) × (take m ys ≡ take n ys))
take_within n ys = ⊎_elim
    (λ (lt : n < length ys). (n, (omega arith, refl)))
    (λ (ge : length ys ≤ n). (length ys, (omega arith, whole ge)))
    (cases_lt n (length ys))
  where
    whole : length ys ≤ n → take (length ys) ys ≡ take n ys
    whole ge = search (rules, common_steps, ge)

-- a beginning of what comes next, after what was appended before
pub begins_in : (old now new : Option (List ℕ)) (xs ys rest : List ℕ) (n : ℕ)
    → Appends old now xs → Appends now new (take n ys) → Begins (xs ++ (ys ++ rest)) old new
begins_in old now new xs ys rest n before more =
    let within = take_within n ys in
    let m = within.0 in
    let part : take (length xs + m) (xs ++ (ys ++ rest)) ≡ xs ++ take n ys
    = take-append-add xs (ys ++ rest) m ∙ ap (λ bytes. xs ++ bytes) (take-append-le m ys rest within.1.0 ∙ within.1.1) in
    (length xs + m, subst (λ bytes. Appends old new bytes) (sym part) (Appends-trans old now new xs (take n ys) before more))

-- what appends nothing keeps what was there
keeps_with_none : (old new : Option (List ℕ)) → Appends old new [] → Keeps old new
keeps_with_none None new h = tt
keeps_with_none (Some xs) None h = absurd h
keeps_with_none (Some xs) (Some ys) h = h ∙ append-nil xs

keeps-trans : (old now new : Option (List ℕ)) → Keeps old now → Keeps now new → Keeps old new
keeps-trans None now new h k = tt
keeps-trans (Some xs) None new h k = absurd h
keeps-trans (Some xs) (Some ys) None h k = absurd k
keeps-trans (Some xs) (Some ys) (Some zs) h k = k ∙ h

abbrev no_bytes : List ℕ
no_bytes = []

take_none : (n : ℕ) → take n no_bytes ≡ no_bytes
take_none zero = refl
take_none (suc n) = refl

pub if_ok : {V E : Type 0} (r : Result V E) (P : Type 0) → P → IfOk r (λ _. P)
if_ok (Ok v) P h = h
if_ok (Err e) P h = tt

-- ---- reports
pub is_summary : (report : Report)
    → (report ≡ Summary) ⊎ ((report ≡ Outcomes) ⊎ (report ≡ Causes)) → IsSummary report
is_summary report (inl is) = subst IsSummary (sym is) tt
is_summary report (inr (inl is)) = subst IsSummary (sym is) tt
is_summary report (inr (inr is)) = subst IsSummary (sym is) tt

module _ (form : Form) (exit : Exit) where
  none_in_summary : (ends : List SeedEnding) → report_entries form Summary exit ends ≡ []
  none_in_summary [] = refl
  none_in_summary (end ∷ ends) = none_in_summary ends

  none_in_outcomes : (ends : List SeedEnding) → report_entries form Outcomes exit ends ≡ []
  none_in_outcomes [] = refl
  none_in_outcomes (end ∷ ends) = none_in_outcomes ends

  none_in_causes : (ends : List SeedEnding) → report_entries form Causes exit ends ≡ []
  none_in_causes [] = refl
  none_in_causes (end ∷ ends) = none_in_causes ends

  -- of a summary there is nothing while the runs go on
  no_entries : (report : Report) (ends : List SeedEnding) → IsSummary report → report_entries form report exit ends ≡ []
  no_entries Lines ends h = absurd h
  no_entries Failures ends h = absurd h
  no_entries Summary ends h = none_in_summary ends
  no_entries Outcomes ends h = none_in_outcomes ends
  no_entries Causes ends h = none_in_causes ends

  -- so nothing is to be written of it then
  pub nothing_written : {V E : Type 0} (r : Result V E) (report : Report) (ends : List SeedEnding) (old : Option (List ℕ)) → IsSummary report
      → IfOk r (λ _. Appends old old (report_entries form report exit ends))
  nothing_written r report ends old summary =
      if_ok r (Appends old old (report_entries form report exit ends))
      (subst (Appends old old) (sym (no_entries report ends summary)) (Appends-nil old))

  -- a report is what there is of it while the runs go on, and then the rows of what is counted
  report_is : (report : Report) (ends : List SeedEnding)
      → report_entries form report exit ends ++ rows_text form (tally_of (counted_of report ends)) ≡ report_text form report exit ends
  report_is Lines ends = append-nil (report_entries form Lines exit ends)
  report_is Failures ends = append-nil (report_entries form Failures exit ends)
  report_is Summary ends = ap (λ text. text ++ rows_text form (tally_of ends)) (none_in_summary ends)
  report_is Outcomes ends = ap (λ text. text ++ rows_text form (tally_of ends)) (none_in_outcomes ends)
  report_is Causes ends = ap (λ text. text ++ rows_text form (tally_of ends)) (none_in_causes ends)

  module _ (report : Report) (ends : List SeedEnding) (rows : List TallyRow) (counted : rows ≡ tally_of (counted_of report ends)) where
    both : report_entries form report exit ends ++ rows_text form rows ≡ report_text form report exit ends
    both = ap (λ rs. report_entries form report exit ends ++ rows_text form rs) counted ∙ report_is report ends

    -- the whole report
    pub report_written : (old now new : Option (List ℕ)) → Appends old now (report_entries form report exit ends) → Appends now new (rows_text form rows)
        → Appends old new (report_text form report exit ends)
    report_written old now new before more =
        subst (Appends old new) both (Appends-trans old now new (report_entries form report exit ends) (rows_text form rows) before more)

    -- a beginning of it, where its rows are cut off
    pub report_begun : (old now new : Option (List ℕ)) → Appends old now (report_entries form report exit ends) → Begins (rows_text form rows) now new
        → Begins (report_text form report exit ends) old new
    report_begun old now new before more =
        subst (λ text. Begins text old new) (ap (λ text. report_entries form report exit ends ++ text) (append-nil (rows_text form rows)) ∙ both)
        (begins_in old now new (report_entries form report exit ends) (rows_text form rows) [] more.0 before more.1)

  -- a beginning of it, where the runs are cut off
  pub runs_begun : (report : Report) (ends : List SeedEnding) (old new : Option (List ℕ)) → Begins (report_entries form report exit ends) old new
      → Begins (report_text form report exit ends) old new
  runs_begun report ends old new h =
      subst (λ text. Begins text old new) (report_is report ends)
      (begins_in old old new [] (report_entries form report exit ends) (rows_text form (tally_of (counted_of report ends))) h.0 (Appends-nil old) h.1)

  -- nothing of a summary, where the runs are cut off
  pub summary_kept : (report : Report) (ends : List SeedEnding) (old new : Option (List ℕ)) → IsSummary report
      → Begins (report_entries form report exit ends) old new → Keeps old new
  summary_kept report ends old new summary h =
      keeps_with_none old new
      (subst (Appends old new) (ap (take h.0) (no_entries report ends summary) ∙ take_none h.0) h.1)

  -- nor where its rows are not written
  pub summary_unwritten : (report : Report) (ends : List SeedEnding) (old now new : Option (List ℕ)) → IsSummary report
      → Appends old now (report_entries form report exit ends) → Keeps now new → Keeps old new
  summary_unwritten report ends old now new summary h kept =
      keeps-trans old now new (keeps_with_none old now (subst (Appends old now) (no_entries report ends summary) h)) kept

-- a beginning of the report of all seeds is one of the first seeds, so many as there are
pub for_all : (campaign : Campaign) (image : ImageValue) (inputs : List ℕ) (never : Type 0) (old new : Option (List ℕ))
    → Begins (report_text campaign.form campaign.report campaign.expect.exit (all_endings campaign image inputs)) old new
    → ForFirst never campaign.count
    (λ n. Begins (report_text campaign.form campaign.report campaign.expect.exit (first_endings n campaign image inputs)) old new)
for_all campaign image inputs never old new h = (
  campaign.count,
  (
    omega arith,
    (
      (λ _. refl),
      subst
          (λ ends. Begins (report_text campaign.form campaign.report campaign.expect.exit ends) old new)
          (sym (first_of_all campaign image inputs campaign.count refl)) h,
    ),
  ),
)
