-- How far a campaign has come, block by block.
use Rattle.std.proofs.Common.{◌≡◌, ℕ, ◌+◌, ◌^◌, ◌<◌, ◌≤◌, ◌||◌, Bool, true, false, List, [], ◌∷◌, ◌++◌, map, length, Option, Some, None, cond, append_assoc, refl, arith, ap, ap₂, sym, subst, ◌∙◌}
use Rattle.std.proofs.KnownBytes.{Appends-nil, Appends-trans}
use Rattle.std.proofs.lemmas.Grind.{flat_map-append}
use Rattle.std.proofs.lemmas.List.{length-append, length-map, map-append}
use Rattle.std.proofs.lemmas.List.FromFn.{length-range_with_len}
use Rattle.std.proofs.lemmas.List.Folds.{list_any-append}
use Rattle.std.specs.Io.KnownBytes.{Appends}
use Rattle.std.specs.List.{range_with_len}
use Rattle.image.specs.Image.{ImageValue}
use Rattle.machine.specs.Start.{started}
use Rattle.program_open.specs.Answers.{Begins}
use Rattle.outcome.specs.Expect.{status_by}
use Rattle.outcome.specs.declared.expect.Exit.{Exit}
use Rattle.cmd_form.specs.declared.form.Form.{Form}
use Rattle.campaign_runs.specs.Ending.{ending_breaks, ending_faults}
use Rattle.campaign_runs.specs.Runs.{SeedEnding, all_endings, seed_ending, ending_from, endings_of}
use Rattle.campaign_runs.specs.Tally.{TallyRow, seeds_in, tally_of, tally_onto}
use Rattle.campaign_runs.specs.declared.campaign.Campaign.{Campaign}
use Rattle.campaign_runs.specs.declared.campaign.Report.{Report}
use Rattle.campaign_runs.specs.declared.campaign.Report.TheVariants.{Lines, Failures, Summary, Outcomes, Causes}
use Rattle.campaign_runs.specs.declared.seed_run.SeedEnd.{SeedEnd}
use Rattle.campaign_runs.proofs.TallyLemmas.{tally_onto-append}
use Rattle.cmd_campaign.specs.First.{first_endings}
use Rattle.cmd_campaign.specs.Lines.{report_entries, report_entry, has_failed}
use Rattle.cmd_campaign.specs.Status.{any_breaks, any_faults, campaign_end, first_failure, first_or}
use Rattle.cmd_campaign.specs.Summary.{counted_of}
use Rattle.cmd_campaign.specs.declared.engine.Finished.{Finished}
use Rattle.cmd_campaign.proofs.FirstLemmas.{all_done, first_runs, no_more}
use Rattle.cmd_campaign.proofs.ReportLemmas.{begins_at, begins_in}
use Rattle.cmd_campaign.proofs.TallyLemmas.{as_many, few_counted, tallied}

-- the endings of seeds and of those after them
endings-append : (campaign : Campaign) (image : ImageValue) (inputs seeds more : List ℕ)
    → endings_of campaign image inputs (seeds ++ more) ≡ endings_of campaign image inputs seeds ++ endings_of campaign image inputs more
unfolding endings_of
endings-append campaign image inputs seeds more = map-append (ending_from (started image inputs) campaign inputs) seeds more

pub endings_none : (campaign : Campaign) (image : ImageValue) (inputs seeds : List ℕ) → seeds ≡ [] → endings_of campaign image inputs seeds ≡ []
unfolding endings_of
endings_none campaign image inputs seeds none = ap (endings_of campaign image inputs) none

-- the endings of the seeds that are left, of which a block was taken
pub split : (campaign : Campaign) (image : ImageValue) (inputs left block after : List ℕ) (ends : List SeedEnding)
    → left ≡ block ++ after → ends ≡ endings_of campaign image inputs block
    → endings_of campaign image inputs left ≡ ends ++ endings_of campaign image inputs after
split campaign image inputs left block after ends order is =
    ap (endings_of campaign image inputs) order ∙ endings-append campaign image inputs block after
    ∙ ap (λ es. es ++ endings_of campaign image inputs after) (sym is)

-- each block has seeds, so fewer are left
pub fewer : (first count : ℕ) (old new : List ℕ) → old ≡ range_with_len first count ++ new → 0 < count → length new < length old
fewer first count old new order some =
    let all : length old ≡ length (range_with_len first count) + length new
    = ap length order ∙ length-append (range_with_len first count) new in
    let block : length (range_with_len first count) ≡ count = length-range_with_len first count in
    omega (arith, all, block, some)

counted_of-append : (report : Report) (done block : List SeedEnding) → counted_of report (done ++ block) ≡ counted_of report done ++ counted_of report block
counted_of-append Lines done block = refl
counted_of-append Failures done block = refl
counted_of-append Summary done block = refl
counted_of-append Outcomes done block = refl
counted_of-append Causes done block = refl

first_failure-append : (exit : Exit) (done block : List SeedEnding)
    → first_failure exit (done ++ block) ≡ first_or (first_failure exit done) (first_failure exit block)
first_failure-append exit [] block = refl
first_failure-append exit (end ∷ done) block = by (has_failed exit end) (first_failure-append exit done block)
  where
    by : (failed : Bool) → first_failure exit (done ++ block) ≡ first_or (first_failure exit done) (first_failure exit block)
        → cond failed (Some end.seed) (first_failure exit (done ++ block))
        ≡ first_or (cond failed (Some end.seed) (first_failure exit done)) (first_failure exit block)
    by true rest = refl
    by false rest = rest

module _ (form : Form) (report : Report) (exit : Exit) where
  -- so many runs are done and recorded, and it is known which of them has failed first; the others
  -- are to come
  pub record SoFar (all left : List SeedEnding) (number : ℕ) (old now : Option (List ℕ)) (rows : List TallyRow) (broken faulted : Bool) (first : Option ℕ) : Type 0 where
    pub done : List SeedEnding
    pub order : all ≡ done ++ left
    pub counting : number ≡ length done
    pub text : Appends old now (report_entries form report exit done)
    pub counted : rows ≡ tally_of (counted_of report done)
    pub breaking : broken ≡ any_breaks done
    pub faulting : faulted ≡ any_faults exit done
    pub failing : first ≡ first_failure exit done

  pub at_start : (all left : List SeedEnding) (old : Option (List ℕ)) (rows : List TallyRow) → left ≡ all → rows ≡ []
      → SoFar all left 0 old old rows false false None
  at_start all left old rows whole none = record {
    done = [];
    order = sym whole;
    counting = refl;
    text = Appends-nil old;
    counted = none ∙ none_counted report;
    breaking = refl;
    faulting = refl;
    failing = refl;
  }
    where
      none_counted : (report : Report) → [] ≡ tally_of (counted_of report [])
      none_counted Lines = refl
      none_counted Failures = refl
      none_counted Summary = refl
      none_counted Outcomes = refl
      none_counted Causes = refl

  -- one block later
  pub goes_on : (all runs block left : List SeedEnding) (number number_now : ℕ) (old now new : Option (List ℕ)) (rows rows_now : List TallyRow) (broken broken_now faulted faulted_now : Bool)
      (first first_now : Option ℕ) → runs ≡ block ++ left → number_now ≡ number + length block → Appends now new (report_entries form report exit block)
      → rows_now ≡ tally_onto rows (counted_of report block) → broken_now ≡ (broken || any_breaks block)
      → faulted_now ≡ (faulted || any_faults exit block)
      → first_now ≡ first_or first (first_failure exit block)
      → SoFar all runs number old now rows broken faulted first → SoFar all left number_now old new rows_now broken_now faulted_now first_now
  goes_on all runs block left number number_now old now new rows rows_now broken broken_now faulted faulted_now first first_now split bigger more counts breaks_too faults_too fails_too before = record {
    done = before.done ++ block;
    order = before.order ∙ ap (λ rest. before.done ++ rest) split ∙ sym (append_assoc before.done block left);
    counting = bigger ∙ ap (λ n. n + length block) before.counting ∙ sym (length-append before.done block);
    text = subst (λ text. Appends old new text) (sym (flat_map-append (report_entry form report exit) before.done block))
        (Appends-trans old now new (report_entries form report exit before.done) (report_entries form report exit block) before.text more);
    counted = counts ∙ ap (λ rs. tally_onto rs (counted_of report block)) before.counted
        ∙ sym (tally_onto-append [] (counted_of report before.done) (counted_of report block))
        ∙ ap tally_of (sym (counted_of-append report before.done block));
    breaking = breaks_too ∙ ap (λ b. b || any_breaks block) before.breaking
        ∙ sym (list_any-append (λ (end : SeedEnding). ending_breaks end.ending) before.done block);
    faulting = faults_too ∙ ap (λ b. b || any_faults exit block) before.faulting
        ∙ sym (list_any-append (λ (end : SeedEnding). ending_faults exit end.ending) before.done block);
    failing = fails_too ∙ ap (λ f. first_or f (first_failure exit block)) before.failing
        ∙ sym (first_failure-append exit before.done block);
  }

  -- these runs are done
  pub record IsDone (ends : List SeedEnding) (old now : Option (List ℕ)) (rows : List TallyRow) (finished : Finished) : Type 0 where
    pub written : Appends old now (report_entries form report exit ends)
    pub counted : rows ≡ tally_of (counted_of report ends)
    pub finished_is : finished ≡ campaign_end exit ends

  pub at_stop : (all left ends : List SeedEnding) (number : ℕ) (old now : Option (List ℕ)) (rows : List TallyRow) (broken faulted : Bool) (first : Option ℕ)
      (finished : Finished) → finished.status ≡ status_by broken faulted → finished.first_failure ≡ first → finished.seeds ≡ number
      → (h : SoFar all left number old now rows broken faulted first) → h.done ≡ ends → IsDone ends old now rows finished
  at_stop all left ends number old now rows broken faulted first finished status is seeds h whole =
      let breaking : broken ≡ any_breaks ends = h.breaking ∙ ap any_breaks whole in
      let faulting : faulted ≡ any_faults exit ends = h.faulting ∙ ap (any_faults exit) whole in
      let failing : first ≡ first_failure exit ends = h.failing ∙ ap (first_failure exit) whole in
      let counting : number ≡ length ends = h.counting ∙ ap length whole in record {
        written = subst (λ runs. Appends old now (report_entries form report exit runs)) whole h.text;
        counted = h.counted ∙ ap (λ runs. tally_of (counted_of report runs)) whole;
        finished_is = λ i. record {
          status = (status ∙ ap₂ status_by breaking faulting) i;
          first_failure = (is ∙ failing) i;
          seeds = (seeds ∙ counting) i;
        };
      }

  -- a halt between two blocks
  pub halts_between : (all left : List SeedEnding) (number : ℕ) (old now : Option (List ℕ)) (rows : List TallyRow) (broken faulted : Bool) (first : Option ℕ)
      → SoFar all left number old now rows broken faulted first → Begins (report_entries form report exit all) old now
  halts_between all left number old now rows broken faulted first h =
      subst (λ bytes. Begins bytes old now) (sym (ap (report_entries form report exit) h.order ∙ flat_map-append (report_entry form report exit) h.done left))
      (begins_at old now (report_entries form report exit h.done) (report_entries form report exit left) h.text)

  -- a halt within a block
  pub halts_in_block : (all runs block left : List SeedEnding) (number : ℕ) (old now new : Option (List ℕ)) (rows : List TallyRow) (broken faulted : Bool) (first : Option ℕ)
      → runs ≡ block ++ left → SoFar all runs number old now rows broken faulted first → Begins (report_entries form report exit block) now new
      → Begins (report_entries form report exit all) old new
  halts_in_block all runs block left number old now new rows broken faulted first split h more =
      let order : all ≡ h.done ++ (block ++ left) = h.order ∙ ap (λ rest. h.done ++ rest) split in
      let text : report_entries form report exit all
      ≡ report_entries form report exit h.done ++ (report_entries form report exit block ++ report_entries form report exit left)
      = ap (report_entries form report exit) order ∙ flat_map-append (report_entry form report exit) h.done (block ++ left)
      ∙ ap (λ rest. report_entries form report exit h.done ++ rest) (flat_map-append (report_entry form report exit) block left) in
      subst (λ bytes. Begins bytes old new) (sym text)
      (begins_in old now new (report_entries form report exit h.done) (report_entries form report exit block) (report_entries form report exit left) more.0 h.text more.1)

module _ (campaign : Campaign) (image : ImageValue) (inputs : List ℕ) where
  -- so many runs of a campaign are done
  abbrev RunsDone : List SeedEnding → ℕ → Option (List ℕ) → Option (List ℕ) → List TallyRow → Bool → Bool → Option ℕ → Type 0
  RunsDone left number old now rows broken faulted first =
      SoFar campaign.form campaign.report campaign.expect.exit (all_endings campaign image inputs) left number old now rows broken faulted first

  module _ (left : List SeedEnding) (number : ℕ) (old now : Option (List ℕ)) (rows : List TallyRow) (broken faulted : Bool) (first : Option ℕ)
      (h : RunsDone left number old now rows broken faulted first) where
    -- where it ends, they are those of the first seeds
    pub stops : (finished : Finished) → finished.status ≡ status_by broken faulted → finished.first_failure ≡ first → finished.seeds ≡ number
        → IsDone campaign.form campaign.report campaign.expect.exit (first_endings finished.seeds campaign image inputs) old now rows finished
    stops finished status is seeds =
        at_stop campaign.form campaign.report campaign.expect.exit (all_endings campaign image inputs) left
        (first_endings finished.seeds campaign image inputs) number old now rows broken faulted first finished status is seeds h
        (first_runs campaign image inputs h.done left finished.seeds h.order (seeds ∙ h.counting))

    pub seeds_within : (finished : Finished) → finished.seeds ≡ number → finished.seeds ≤ campaign.count
    seeds_within finished seeds = no_more campaign image inputs h.done left finished.seeds h.order (seeds ∙ h.counting)

    pub seeds_all : (finished : Finished) → finished.seeds ≡ number → left ≡ [] → finished.seeds ≡ campaign.count
    seeds_all finished seeds none = all_done campaign image inputs h.done left finished.seeds h.order (seeds ∙ h.counting) none

  -- as many runs as a block has seeds
  pub block_length : (ends : List SeedEnding) (from count : ℕ) → ends ≡ endings_of campaign image inputs (range_with_len from count)
      → length ends ≡ count
  unfolding endings_of
  block_length ends from count is =
      ap length is ∙ length-map (range_with_len from count) (ending_from (started image inputs) campaign inputs)
      ∙ length-range_with_len from count

  module _ (runs left : List SeedEnding) (number : ℕ) (old now : Option (List ℕ)) (rows : List TallyRow) (broken faulted : Bool) (first : Option ℕ)
      (h : RunsDone runs number old now rows broken faulted first) (few : campaign.count < 2 ^ 64) where
    all_runs : (block : List SeedEnding) → runs ≡ block ++ left → campaign.count ≡ length h.done + (length block + length left)
    all_runs block split =
        sym (as_many campaign image inputs) ∙ ap length (h.order ∙ ap (λ rest. h.done ++ rest) split) ∙ length-append h.done (block ++ left)
        ∙ ap (λ n. length h.done + n) (length-append block left)

    -- the runs of a block can be counted, as all can
    pub room : {Z : Type 0} (ends : List (SeedEnd Z)) → runs ≡ map seed_ending ends ++ left → seeds_in rows + length ends < 2 ^ 64
    room ends split =
        let all = all_runs (map seed_ending ends) split in
        let rows_are : seeds_in rows ≡ length (counted_of campaign.report h.done) = ap seeds_in h.counted ∙ tallied (counted_of campaign.report h.done) in
        let within = few_counted campaign.report h.done in
        let ends_are : length (map seed_ending ends) ≡ length ends = length-map ends seed_ending in
        omega (arith, all, rows_are, within, ends_are, few)

    pub number_fits : (block : List SeedEnding) (count : ℕ) → runs ≡ block ++ left → length block ≡ count → number + count < 2 ^ 64
    number_fits block count split size =
        let all = all_runs block split in
        let done = h.counting in
        omega (arith, all, done, size, few)
