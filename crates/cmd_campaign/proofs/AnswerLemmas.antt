-- The answer after the program is read, and over what the device had left.
use Rattle.std.proofs.Common.{◌≡◌, ℕ, ◌<◌, ◌≤◌, true, false, cond, eqb, ltb, List, ◌⊎◌, length, Option, Some, None, Result, Ok, Err, IfOk, IfErr, arith, ne_eqb, le-ltb, lt-ltb, ap, sym, subst, ◌∙◌}
use Rattle.std.specs.Io.KnownBytes.{Appends}
use Rattle.std.specs.Option.{IfSome}
use Rattle.image.specs.Image.{ImageValue}
use Rattle.hart_reservations.specs.Limit.{most_harts}
use Rattle.machine.specs.Start.{IsStartable, RefusesStart}
use Rattle.machine.specs.declared.inputs.StartFault.{StartFault}
use Rattle.machine.specs.declared.inputs.StartFault.TheVariants as start
use Rattle.program_open.specs.CommandFaults.{fault_of_start, IfHalts, IfNames, IsRefusal}
use Rattle.program_open.specs.Program.{program_of}
use Rattle.program_open.specs.declared.program.ProgramForm.TheVariants as form
use Rattle.program_open.specs.declared.command_fault.CommandFault.{CommandFault}
use Rattle.program_open.specs.declared.command_fault.CommandFault.TheVariants as fault
use Rattle.program_open.specs.Answers.{Answer, BeginsToPrint, Begins, Prints}
use Rattle.program_open.proofs.FaultLemmas.{names_so}
use Rattle.campaign_runs.specs.Runs.{all_endings}
use Rattle.campaign_runs.specs.declared.campaign.Campaign.{Campaign}
use Rattle.cmd_campaign.specs.Answers.{after_image, campaign_answer, campaign_failure, first_failure_after, reported}
use Rattle.cmd_campaign.specs.First.{first_endings, first_seeds, ForFirst}
use Rattle.cmd_campaign.specs.Status.{campaign_end}
use Rattle.cmd_campaign.specs.Summary.{report_text}
use Rattle.cmd_campaign.specs.declared.engine.Finished.{Finished}

module _ (campaign : Campaign) (inputs : List ℕ) where
  -- the report of an image's runs
  abbrev shown : ImageValue → Answer
  shown image = Ok (reported campaign (all_endings campaign image inputs))

  -- runs that may start
  pub answer_of_runs : (image : ImageValue) → IsStartable inputs
      → after_image campaign inputs (Ok image) ≡ Ok (reported campaign (all_endings campaign image inputs))
  answer_of_runs image startable =
      ap (λ none. cond none (Err fault.NoHarts) (cond (ltb most_harts (length inputs)) (Err fault.TooManyHarts) (shown image)))
      (some (length inputs) startable.0)
      ∙ ap (λ many. cond many (Err fault.TooManyHarts) (shown image)) (few (length inputs) startable.1)
    where
      some : (n : ℕ) → 0 < n → eqb n 0 ≡ false
      some n h = ne_eqb n 0 (λ none. omega (arith, h, none))

      few : (n : ℕ) → n ≤ most_harts → ltb most_harts n ≡ false
      few n h = le-ltb most_harts n h

  -- inputs that no run can start with
  answer_of_none : (image : ImageValue) → length inputs ≡ 0 → after_image campaign inputs (Ok image) ≡ Err fault.NoHarts
  answer_of_none image none =
      ap (λ n. cond (eqb n 0) (Err fault.NoHarts) (cond (ltb most_harts n) (Err fault.TooManyHarts) (shown image))) none

  answer_of_many : (image : ImageValue) → most_harts < length inputs → after_image campaign inputs (Ok image) ≡ Err fault.TooManyHarts
  answer_of_many image many =
      ap (λ none. cond none (Err fault.NoHarts) (cond (ltb most_harts (length inputs)) (Err fault.TooManyHarts) (shown image)))
      (some (length inputs) many)
      ∙ ap (λ many. cond many (Err fault.TooManyHarts) (shown image)) (much (length inputs) many)
    where
      some : (n : ℕ) → most_harts < n → eqb n 0 ≡ false
      some n h = ne_eqb n 0 (λ none. omega (arith, h, none))

      much : (n : ℕ) → most_harts < n → ltb most_harts n ≡ true
      much n h = lt-ltb most_harts n h

  -- inputs that are invalid
  pub answer_of_refused : (image : ImageValue) (why : StartFault) → RefusesStart inputs why
      → after_image campaign inputs (Ok image) ≡ Err (fault_of_start why)
  answer_of_refused image start.NoHarts none = answer_of_none image none
  answer_of_refused image start.TooManyHarts many = answer_of_many image many

  -- ---- the answer to an image is that to what the device had left
  -- a program that isn't read
  pub unread_known : (left : Option (List ℕ)) (why : CommandFault) → IfSome left (λ p. program_of form.Elf p ≡ Err why)
      → IfSome left (λ p. campaign_answer campaign inputs p ≡ Err why)
  unfolding campaign_answer
  unread_known None why reads = tt
  unread_known (Some p) why reads = ap (after_image campaign inputs) reads

  module _ (left : Option (List ℕ)) (image : ImageValue) (reads : IfSome left (λ p. program_of form.Elf p ≡ Ok image)) where
    -- for any campaign
    pub image_known : (P : (Campaign → Answer) → Type 0) → P (λ each. after_image each inputs (Ok image))
        → IfSome left (λ p. P (λ each. campaign_answer each inputs p))
    unfolding campaign_answer
    image_known P h = go left reads
      where
        go : (o : Option (List ℕ)) → IfSome o (λ p. program_of form.Elf p ≡ Ok image) → IfSome o (λ p. P (λ each. campaign_answer each inputs p))
        go None r = tt
        go (Some p) r = subst P (sym (ap (λ read each. after_image each inputs read) r)) h

    -- all lines of the first seeds
    pub done_known : (r : Result Finished CommandFault) (old new : Option (List ℕ))
        → IfOk r (λ f. Prints (after_image (first_seeds f.seeds campaign) inputs (Ok image)) f.status old new)
        → IfOk r (λ f. IfSome left (λ p. Prints (campaign_answer (first_seeds f.seeds campaign) inputs p) f.status old new))
    done_known (Ok f) old new h = image_known (λ answers. Prints (answers (first_seeds f.seeds campaign)) f.status old new) h
    done_known (Err why) old new h = h

    -- the first seed among them whose run has failed
    pub first_known : (r : Result Finished CommandFault)
        → IfOk r (λ f. f ≡ campaign_end campaign.expect.exit (first_endings f.seeds campaign image inputs))
        → IfOk r (λ f. IfSome left (λ p. f.first_failure ≡ campaign_failure (first_seeds f.seeds campaign) inputs p))
    unfolding campaign_failure
    first_known (Ok f) h = go left reads
      where
        go : (o : Option (List ℕ)) → IfSome o (λ p. program_of form.Elf p ≡ Ok image)
            → IfSome o (λ p. f.first_failure ≡ campaign_failure (first_seeds f.seeds campaign) inputs p)
        go None r = tt
        go (Some p) r =
            ap (λ (x : Finished). x.first_failure) h ∙ sym (ap (first_failure_after (first_seeds f.seeds campaign) inputs) r)
    first_known (Err why) h = h

    -- a refusal
    pub refused_known : (r : Result Finished CommandFault)
        → IfErr r (λ why. IsRefusal why → after_image campaign inputs (Ok image) ≡ Err why)
        → IfErr r (λ why. IsRefusal why → IfSome left (λ p. campaign_answer campaign inputs p ≡ Err why))
    refused_known (Ok s) h = h
    refused_known (Err why) h = λ refusal. image_known (λ answers. answers campaign ≡ Err why) (h refusal)

    -- a write failed
    pub begun_known : (never : Type 0) (old new : Option (List ℕ))
        → ForFirst never campaign.count (λ n. BeginsToPrint (after_image (first_seeds n campaign) inputs (Ok image)) old new)
        → IfSome left (λ p. ForFirst never campaign.count (λ n. BeginsToPrint (campaign_answer (first_seeds n campaign) inputs p) old new))
    begun_known never old new h =
        image_known (λ answers. ForFirst never campaign.count (λ n. BeginsToPrint (answers (first_seeds n campaign)) old new)) h

    -- memory was refused before the first block or later
    pub halted_known : (K never : Type 0) (old new : Option (List ℕ))
        → K ⊎ ForFirst never campaign.count (λ n. BeginsToPrint (after_image (first_seeds n campaign) inputs (Ok image)) old new)
        → IfSome left (λ p. K ⊎ ForFirst never campaign.count (λ n. BeginsToPrint (campaign_answer (first_seeds n campaign) inputs p) old new))
    halted_known K never old new h =
        image_known (λ answers. K ⊎ ForFirst never campaign.count (λ n. BeginsToPrint (answers (first_seeds n campaign)) old new)) h

-- ---- the runs of an image
module _ (campaign : Campaign) (inputs : List ℕ) (image : ImageValue) (startable : IsStartable inputs) where
  abbrev first_report : ℕ → List ℕ
  first_report n = report_text campaign.form campaign.report campaign.expect.exit (first_endings n campaign image inputs)

  -- a beginning of the report of the first seeds, after a fault that halted the runs
  pub begins_answer : (never : Type 0) (r : Result Finished CommandFault) (why : CommandFault) (old new : Option (List ℕ))
      → IfErr r (λ _. ForFirst never campaign.count (λ n. Begins (first_report n) old new)) → r ≡ Err why
      → ForFirst never campaign.count (λ n. BeginsToPrint (after_image (first_seeds n campaign) inputs (Ok image)) old new)
  begins_answer never r why old new begun is =
      let h = subst (λ x. IfErr x (λ _. ForFirst never campaign.count (λ n. Begins (first_report n) old new))) is begun in (
        h.0,
        (
          h.1.0,
          (
            h.1.1.0,
            subst (λ answer. BeginsToPrint answer old new)
                (sym (answer_of_runs (first_seeds h.0 campaign) inputs image startable)) h.1.1.1,
          ),
        ),
      )

  -- the whole report of the first seeds, where the runs came to their end
  pub done_answer : (r : Result Finished CommandFault) (old new : Option (List ℕ))
      → IfOk r (λ f. Appends old new (first_report f.seeds))
      → IfOk r (λ f. f ≡ campaign_end campaign.expect.exit (first_endings f.seeds campaign image inputs))
      → IfOk r (λ f. Prints (after_image (first_seeds f.seeds campaign) inputs (Ok image)) f.status old new)
  done_answer (Ok f) old new written is =
      subst (λ answer. Prints answer f.status old new) (sym (answer_of_runs (first_seeds f.seeds campaign) inputs image startable))
      (ap (λ (x : Finished). x.status) (sym is), written)
  done_answer (Err why) old new written is = is

-- ---- the device that a fault names
-- none, if the inputs are invalid
pub start_unread : (why : StartFault) (file choices history sink : Type 0) → IfNames (fault_of_start why) file choices history sink
start_unread start.NoHarts file choices history sink = tt
start_unread start.TooManyHarts file choices history sink = tt

-- the sink at most, where the runs were halted
pub halted_unread : (r : Result Finished CommandFault) (risen : Type 0) → IfErr r (λ why. IfHalts why risen)
    → IfErr r (λ why. IfNames why ⊥ ⊥ ⊥ risen)
halted_unread (Ok s) risen h = h
halted_unread (Err fault.Memory) risen h = tt
halted_unread (Err fault.Write) risen h = h
halted_unread (Err why) risen h = absurd h

-- so the file only where it failed
pub unread_still : (r : Result Finished CommandFault) (file sink : Type 0) → IfErr r (λ why. IfNames why ⊥ ⊥ ⊥ sink)
    → IfErr r (λ why. IfNames why file ⊥ ⊥ sink)
unread_still (Ok s) file sink h = h
unread_still (Err why) file sink h = names_so why (λ none. absurd none) (λ none. none) (λ none. none) (λ risen. risen) h
