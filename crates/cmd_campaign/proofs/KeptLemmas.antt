-- Campaigns of an object.
use Rattle.std.proofs.Common.{◌≡◌, ℕ, ◌^◌, ◌<◌, Bool, true, false, cond, ◌||◌, rules, List, [], ◌∷◌, ◌++◌, zero, suc, eqb, ltb, arith, length, Option, Some, None, Result, Ok, Err, IfOk, refl, ap, ap₂, sym, subst, ◌∙◌, inl, inr}
use Rattle.std.specs.List.{All, range_with_len}
use Rattle.std.specs.Option.{IfSome}
use Rattle.std.proofs.lemmas.List.Elements.{All-nil, All-cons}
use Rattle.image.specs.Image.{ImageValue}
use Rattle.hart_reservations.specs.Limit.{most_harts}
use Rattle.machine.specs.Start.{IsStartable, started}
use Rattle.machine.specs.World.{World, run}
use Rattle.sched_draw.specs.Schedules.{drawn_choices}
use Rattle.sched_draw.proofs.ChoiceLemmas.{drawn_choices-within}
use Rattle.outcome.specs.Ends.{verdict_on}
use Rattle.object_library.specs.declared.kind.Kind.{Kind}
use Rattle.object_library.specs.declared.verdict.Verdict.TheVariants.{Kept}
use Rattle.object_library.specs.Images.{image_of, IsSame}
use Rattle.cmd_run.specs.Certified.{IsCertified, IsMeantFor, IsUnbroken}
use Rattle.cmd_run.proofs.CertifiedLemmas.{object_is_kept}
use Rattle.outcome.specs.Expect.{breaks, has_faults, status_by}
use Rattle.outcome.specs.declared.expect.Exit.{Exit}
use Rattle.outcome.specs.declared.expect.Exit.TheVariants.{May, Must}
use Rattle.program_open.specs.Program.{program_of}
use Rattle.program_open.specs.declared.program.ProgramForm.TheVariants as form
use Rattle.program_open.specs.declared.command_fault.CommandFault.{CommandFault}
use Rattle.cmd_form.specs.declared.form.Form.{Form}
use Rattle.cmd_form.specs.declared.form.Form.TheVariants.{Text, Json}
use Rattle.run_hangs.specs.Asked.{hangs_if}
use Rattle.run_hangs.specs.declared.asked.Hangs.TheVariants.{Unasked}
use Rattle.campaign_runs.specs.Ending.{does_hang, ending_breaks, ending_faults, words_of_ending}
use Rattle.campaign_runs.specs.Hangs.{words_deciding}
use Rattle.campaign_runs.specs.Properties.{judged_over, no_properties, verdict_on_each}
use Rattle.campaign_runs.specs.Runs.{SeedEnding, all_endings, ending_from, endings_of}
use Rattle.campaign_runs.specs.Words.{words_seen, text_of_words}
use Rattle.campaign_runs.specs.declared.campaign.Campaign.{Campaign}
use Rattle.campaign_runs.specs.declared.campaign.Report.{Report}
use Rattle.campaign_runs.specs.declared.campaign.Report.TheVariants.{Lines, Failures, Summary, Outcomes, Causes}
use Rattle.campaign_runs.specs.declared.words.Words.{Words}
use Rattle.byte_io.specs.declared.status.Status.TheVariants as status
use Rattle.cmd_campaign.specs.Answers.{after_image, campaign_answer}
use Rattle.cmd_campaign.specs.First.{first_endings, first_seeds}
use Rattle.cmd_campaign.specs.Kept.{AllKept, AnswersNothing}
use Rattle.cmd_campaign.specs.Lines.{end_entry, report_entries, has_failed}
use Rattle.cmd_campaign.specs.Summary.{report_text}
use Rattle.cmd_campaign.specs.Status.{any_breaks, any_faults, campaign_end, campaign_status}
use Rattle.cmd_campaign.specs.declared.engine.Finished.{Finished}

-- lines of seeds have no words
abbrev pub IsWordless : SeedEnding → Type 0
IsWordless end = end.ending.words ≡ []

abbrev pub AllWordless : List SeedEnding → Type 0
AllWordless ends = All IsWordless ends

abbrev pub WordlessIn : Report → List SeedEnding → Type 0
WordlessIn Lines ends = AllWordless ends
WordlessIn Failures ends = AllWordless ends
WordlessIn Summary ends = Unit {0}
WordlessIn Outcomes ends = Unit {0}
WordlessIn Causes ends = Unit {0}

-- what a report says of the world that a run left, where no property is judged
abbrev words_left : Form → Report → Words → World → List ℕ
words_left form report words w = words_of_ending form report [] w.harts ++ text_of_words form (words_seen report words w)

-- without properties they say nothing more, in either form
none_in_lines : (form : Form) (words : Words) (w : World) → words_left form Lines words w ≡ []
none_in_lines Text words w = refl
none_in_lines Json words w = refl

none_in_failures : (form : Form) (words : Words) (w : World) → words_left form Failures words w ≡ []
none_in_failures Text words w = refl
none_in_failures Json words w = refl

module _ (kind : Kind) (image : ImageValue) (campaign : Campaign) (inputs : List ℕ) (some : 0 < length inputs) (same : IsSame image (image_of kind))
    (meant : IsMeantFor kind (length inputs)) (words : All (λ x. x < 2 ^ 32) inputs) (ruled : campaign.expect.rule ≡ Some kind) where
  -- the run of a seed
  end : ℕ → SeedEnding
  end seed = ending_from (started image inputs) campaign inputs seed

  kept : (seed : ℕ) → (end seed).ending.outcome.verdict ≡ Some Kept
  unfolding end ending_from
  kept seed =
      let choices = drawn_choices campaign.draw (started image inputs) (length inputs) campaign.steps seed in
      ap (λ r. verdict_on r inputs choices (run (started image inputs) choices).harts) ruled
      ∙ object_is_kept kind image inputs choices same meant words
      (drawn_choices-within campaign.draw (started image inputs) (length inputs) campaign.steps seed some)

  -- each verdict is kept
  pub all_kept : (seeds : List ℕ) → AllKept (endings_of campaign image inputs seeds)
  unfolding endings_of end
  all_kept [] = All-nil (λ (end : SeedEnding). end.ending.outcome.verdict ≡ Some Kept)
  all_kept (seed ∷ seeds) =
      All-cons (λ (end : SeedEnding). end.ending.outcome.verdict ≡ Some Kept) (end seed) (endings_of campaign image inputs seeds) (kept seed) (all_kept seeds)

  -- ---- where no property is judged
  module _ (bare : campaign.properties ≡ no_properties) where
    plain : (seed : ℕ) → (end seed).ending.properties ≡ None
    unfolding end ending_from
    plain seed =
        let choices = drawn_choices campaign.draw (started image inputs) (length inputs) campaign.steps seed in
        ap (λ properties. verdict_on_each (judged_over properties (started image inputs) choices)) bare

    -- the world after the run of a seed
    abbrev after_seed : ℕ → World
    after_seed seed =
        run (started image inputs) (drawn_choices campaign.draw (started image inputs) (length inputs) campaign.steps seed)

    -- nothing is broken
    breaks_not : (seed : ℕ) → ending_breaks (end seed).ending ≡ false
    breaks_not seed = ap₂ (λ p v. breaks p || breaks v) (plain seed) (kept seed)

    none_breaks : (seeds : List ℕ) → any_breaks (endings_of campaign image inputs seeds) ≡ false
    unfolding endings_of end
    none_breaks [] = refl
    none_breaks (seed ∷ seeds) = ap₂ (λ a b. a || b) (breaks_not seed) (none_breaks seeds)

    -- and where harts may run, no run has failed otherwise than by a hang
    faults_not : (seed : ℕ) → ending_faults May (end seed).ending ≡ false
    faults_not seed =
        ap₂ (λ p v. breaks p || (breaks v || (has_faults v (end seed).ending.outcome.faulted || false))) (plain seed) (kept seed)

    none_faults : (seeds : List ℕ) → any_faults May (endings_of campaign image inputs seeds) ≡ false
    unfolding endings_of end
    none_faults [] = refl
    none_faults (seed ∷ seeds) = ap₂ (λ a b. a || b) (faults_not seed) (none_faults seeds)

    -- the status
    unbroken : (exit : Exit) (seeds : List ℕ) → IsUnbroken exit (campaign_status exit (endings_of campaign image inputs seeds))
    unbroken May seeds = ap₂ status_by (none_breaks seeds) (none_faults seeds)
    unbroken Must seeds =
        let ends = endings_of campaign image inputs seeds in
        subst (λ b. IsUnbroken Must (status_by b (any_faults Must ends))) (sym (none_breaks seeds)) (by (any_faults Must ends))
      where
        by : (b : Bool) → IsUnbroken Must (status_by false b)
        by true = inr refl
        by false = inl refl

    -- ---- where it isn't decided whether runs hang
    module _ (unasked : campaign.hangs ≡ Unasked) where
      undecided : (seed : ℕ) → (end seed).ending.hangs ≡ None
      unfolding end ending_from
      undecided seed = ap (λ asked. hangs_if asked (length inputs) campaign.steps (after_seed seed)) unasked

      -- an ending has the words of harts and of memory alone
      left_words : (report : Report) → campaign.report ≡ report
          → (seed : ℕ) → (end seed).ending.words ≡ words_left campaign.form report campaign.words (after_seed seed)
      unfolding end ending_from
      left_words report is seed =
          let choices = drawn_choices campaign.draw (started image inputs) (length inputs) campaign.steps seed in
          let left = run (started image inputs) choices in
          let said = words_of_ending campaign.form campaign.report (judged_over campaign.properties (started image inputs) choices) left.harts
          ++ text_of_words campaign.form (words_seen campaign.report campaign.words left) in
          ap (λ asked. words_deciding campaign.form (hangs_if asked (length inputs) campaign.steps (after_seed seed)) said) unasked
          ∙ ap₂ (λ properties r. words_of_ending campaign.form r (judged_over properties (started image inputs) choices) left.harts
          ++ text_of_words campaign.form (words_seen r campaign.words left)) bare is

      all_wordless : ((seed : ℕ) → (end seed).ending.words ≡ []) → (seeds : List ℕ) → AllWordless (endings_of campaign image inputs seeds)
      unfolding endings_of end
      all_wordless silent [] = All-nil IsWordless
      all_wordless silent (seed ∷ seeds) =
          All-cons IsWordless (end seed) (endings_of campaign image inputs seeds) (silent seed) (all_wordless silent seeds)

      -- so lines of seeds have none
      pub lines_wordless : (report : Report) → campaign.report ≡ report → (seeds : List ℕ) → WordlessIn report (endings_of campaign image inputs seeds)
      lines_wordless Lines is seeds = all_wordless (λ seed. left_words Lines is seed ∙ none_in_lines campaign.form campaign.words (after_seed seed)) seeds
      lines_wordless Failures is seeds = all_wordless (λ seed. left_words Failures is seed ∙ none_in_failures campaign.form campaign.words (after_seed seed)) seeds
      lines_wordless Summary is seeds = tt
      lines_wordless Outcomes is seeds = tt
      lines_wordless Causes is seeds = tt

      -- where harts may run, no run has failed
      fails_not : (seed : ℕ) → has_failed May (end seed) ≡ false
      fails_not seed = ap₂ (λ f h. f || does_hang h) (faults_not seed) (undecided seed)

      -- so none has a line among the failures
      none_listed : (seeds : List ℕ) → report_entries campaign.form Failures May (endings_of campaign image inputs seeds) ≡ []
      unfolding endings_of end
      none_listed [] = refl
      none_listed (seed ∷ seeds) =
          ap₂ (λ failed rest. cond failed (end_entry campaign.form (end seed)) [] ++ rest) (fails_not seed) (none_listed seeds)

      nothing : (report : Report) (exit : Exit) (seeds : List ℕ) → report ≡ Failures → exit ≡ May
          → (report_text campaign.form report exit (endings_of campaign image inputs seeds) ≡ []) × (campaign_status exit (endings_of campaign image inputs seeds) ≡ status.Done)
      nothing report exit seeds failures may =
          let ends = endings_of campaign image inputs seeds in (
            ap₂ (λ r e. report_text campaign.form r e ends) failures may ∙ none_listed seeds,
            ap (λ e. campaign_status e ends) may ∙ ap₂ status_by (none_breaks seeds) (none_faults seeds),
          )

abbrev loads : ImageValue → Result ImageValue CommandFault
loads x = Ok x

same_image : (x y : ImageValue) → loads x ≡ loads y → x ≡ y
same_image x y e = search (rules, e)

-- what is known of the campaign of an object over what the device had left
module _ (campaign : Campaign) (inputs : List ℕ) (image : ImageValue) where
  abbrev Certifies : Finished → List ℕ → Type 0
  Certifies finished p = (object : IsCertified form.Elf p inputs campaign.expect.rule)
      → (campaign.properties ≡ no_properties → IsUnbroken campaign.expect.exit finished.status)
      × AllKept (all_endings campaign object.image inputs)

  certified : (finished : Finished) (p : List ℕ) → All (λ x. x < 2 ^ 32) inputs → IsStartable inputs → program_of form.Elf p ≡ Ok image
      → finished ≡ campaign_end campaign.expect.exit (first_endings finished.seeds campaign image inputs) → Certifies finished p
  certified finished p words startable reads is = λ object.
      let one : object.image ≡ image = same_image object.image image (sym object.reads ∙ reads) in
      let status : finished.status ≡ campaign_status campaign.expect.exit (first_endings finished.seeds campaign object.image inputs)
      = ap (λ (f : Finished). f.status) is
      ∙ ap (λ i. campaign_status campaign.expect.exit (first_endings finished.seeds campaign i inputs)) (sym one) in (
        (λ bare. subst (IsUnbroken campaign.expect.exit) (sym status)
            (unbroken object.kind object.image (first_seeds finished.seeds campaign) inputs startable.0 object.same object.meant words object.ruled bare
            campaign.expect.exit (range_with_len campaign.first finished.seeds))),
        all_kept object.kind object.image campaign inputs startable.0 object.same object.meant words object.ruled
            (range_with_len campaign.first campaign.count),
      )

  pub certified_known : (left : Option (List ℕ)) (r : Result Finished CommandFault) → IfSome left (λ p. program_of form.Elf p ≡ Ok image)
      → IfOk r (λ _. All (λ x. x < 2 ^ 32) inputs) → IfOk r (λ _. IsStartable inputs)
      → IfOk r (λ f. f ≡ campaign_end campaign.expect.exit (first_endings f.seeds campaign image inputs))
      → IfOk r (λ f. IfSome left (λ p. Certifies f p))
  certified_known None (Ok f) reads words startable is = tt
  certified_known (Some p) (Ok f) reads words startable is = certified f p words startable reads is
  certified_known left (Err why) reads words startable is = is

-- ---- failures
-- what holds for both faults, and for the answer if there are inputs, holds
pub answered : {X : Type 0} (P : X → Type 0) (n : ℕ) (none many shown : X) → P none → P many → (0 < n → P shown)
    → P (cond (eqb n 0) none (cond (ltb most_harts n) many shown))
answered P n none many shown of_none of_many runs = by (eqb n 0) refl
  where
    some : (n : ℕ) → eqb n 0 ≡ false → 0 < n
    some zero e = absurd (cc)
    some (suc n) e = omega arith

    few : (b : Bool) → 0 < n → P (cond b many shown)
    few true there = of_many
    few false there = runs there

    by : (b : Bool) → eqb n 0 ≡ b → P (cond b none (cond (ltb most_harts n) many shown))
    by true e = of_none
    by false e = few (ltb most_harts n) (some n e)

pub no_failures : (campaign : Campaign) (inputs program : List ℕ) → campaign.report ≡ Failures → campaign.expect.exit ≡ May
    → campaign.properties ≡ no_properties → campaign.hangs ≡ Unasked
    → All (λ x. x < 2 ^ 32) inputs → IsCertified form.Elf program inputs campaign.expect.rule
    → AnswersNothing (campaign_answer campaign inputs program)
unfolding campaign_answer
no_failures campaign inputs program failures may bare unasked words h =
    subst (λ p. AnswersNothing (after_image campaign inputs p)) (sym h.reads)
    (answered AnswersNothing (length inputs) _ _ _ tt tt (λ some.
    nothing h.kind h.image campaign inputs some h.same h.meant words h.ruled bare unasked campaign.report campaign.expect.exit
    (range_with_len campaign.first campaign.count) failures may))
