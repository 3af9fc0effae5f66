-- The runs of seeds, one by one and as a list.
use Rattle.std.proofs.Common.{◌≡◌, ℕ, zero, suc, ◌+◌, Bool, List, [], ◌∷◌, ◌++◌, map, length, Ok, Err, IfOk, refl, arith, ap, ap₂, sym, ◌∙◌, subst}
use Rattle.std.proofs.lemmas.List.{map-append}
use Rattle.std.proofs.lemmas.List.FromFn.{map-range_with_len_more}
use Rattle.std.specs.Prelude.{MatchResult}
use Rattle.std.specs.List.{AllZip, Contains, range_with_len}
use Rattle.std.specs.declared.result.Result.{Result}
use Rattle.std.specs.declared.vec.Vec.{Vec}
use Rattle.std.specs.declared.alloc.AllocError.{AllocError}
use Rattle.image.specs.Image.{ImageValue}
use Rattle.hart_step.specs.Hart.{HartValue}
use Rattle.machine.specs.World.{World, run}
use Rattle.machine.specs.Start.{started}
use Rattle.machine.specs.Chosen.{is_chosen}
use Rattle.machine.specs.declared.choice.Choice.{Choice}
use Rattle.machine.proofs.RunLaws.{length-started}
use Rattle.sched_draw.specs.Schedules.{drawn_choices, RanOver}
use Rattle.outcome.specs.Expect.{judged}
use Rattle.outcome.specs.declared.run_outcome.Outcome.{Outcome}
use Rattle.property_judge.specs.Judged.{judged_run}
use Rattle.property_judge.specs.declared.judged.Judged.{Judged}
use Rattle.run_hangs.specs.Asked.{hangs_if}
use Rattle.run_hangs.specs.declared.asked.Hangs.{Hangs}
use Rattle.run_hangs.specs.declared.asked.Hangs.TheVariants.{Unasked}
use Rattle.campaign_runs.specs.Ending.{EndingValue, ending_with}
use Rattle.campaign_runs.specs.Hangs.{ending_deciding, ending_left}
use Rattle.campaign_runs.specs.Properties.{judged_over, unjudged}
use Rattle.campaign_runs.specs.Words.{ending_seeing, words_seen}
use Rattle.campaign_runs.specs.Runs.{SeedEnding, seed_ending, ending_after, ending_from, endings_of}
use Rattle.campaign_runs.specs.declared.campaign.Campaign.{Campaign}
use Rattle.campaign_runs.specs.declared.seed_run.SeedEnd.{SeedEnd}

-- a machine that was started has a hart for each input
pub harts-started : (w : World) (image : ImageValue) (inputs : List ℕ) → w ≡ started image inputs → length w.harts ≡ length inputs
harts-started w image inputs begun = ap (λ (v : World). length v.harts) begun ∙ length-started image inputs

-- the parts of an ending
same_parts : (campaign : Campaign) (n : ℕ) (outcome says : Outcome) (js judged_too : List Judged) (v w : World)
    → outcome ≡ says → js ≡ judged_too → v ≡ w → ending_left campaign n outcome js v ≡ ending_left campaign n says judged_too w
same_parts campaign n outcome says js judged_too v w so judges rest =
    ap (λ o. ending_left campaign n o js v) so
    ∙ ap (λ each. ending_left campaign n says each v) judges
    ∙ ap (λ x. ending_left campaign n says judged_too x) rest

-- the ending of a copy's run, where there is no property
pub ending-copied : (campaign : Campaign) (inputs : List ℕ) (seed : ℕ) (start v w : World) (chosen : ℕ → Bool) (outcome : Outcome)
    (harts : List HartValue) (ending : EndingValue) → unjudged campaign.properties ≡ []
    → v ≡ start → RanOver (drawn_choices campaign.draw v (length inputs) campaign.steps seed) v w chosen → harts ≡ w.harts
    → ((choices : List Choice) → ((k : ℕ) → chosen k ≡ is_chosen choices k) → outcome ≡ judged campaign.expect.rule inputs choices harts)
    → ending ≡ ending_left campaign (length inputs) outcome [] w
    → record { seed = seed; ending = ending } ≡ ending_from start campaign inputs seed
unfolding ending_from
ending-copied campaign inputs seed start v w chosen outcome harts ending none copied ran ends judges is =
    let choices = drawn_choices campaign.draw v (length inputs) campaign.steps seed in
    let after : w.harts ≡ (run v choices).harts = ap (λ (x : World). x.harts) ran.0 in
    let says : outcome ≡ judged campaign.expect.rule inputs choices (run v choices).harts
    = judges choices ran.1 ∙ ap (judged campaign.expect.rule inputs choices) (ends ∙ after) in
    let unjudged_too : [] ≡ judged_over campaign.properties v choices = sym (ap (map (judged_run v choices)) none) in
    ap {A = EndingValue} {B = SeedEnding} (λ e. record { seed = seed; ending = e })
    (is ∙ same_parts campaign (length inputs) outcome _ [] _ w _ says unjudged_too ran.0)
    ∙ ap (λ x. ending_from x campaign inputs seed) copied

-- where it isn't asked whether runs hang, an ending isn't said to hang
pub ending-unasked : (campaign : Campaign) (world : World) (inputs : List ℕ) (choices : List Choice) → campaign.hangs ≡ Unasked
    → ending_after world campaign inputs choices ≡ ending_seeing campaign.form
    (words_seen campaign.report campaign.words (run world choices))
    (ending_with campaign.form campaign.report
    (judged campaign.expect.rule inputs choices (run world choices).harts)
    (judged_over campaign.properties world choices) (run world choices).harts)
ending-unasked campaign world inputs choices unasked =
    let left = run world choices in
    ap {A = Hangs} {B = EndingValue} (λ asked. ending_deciding campaign.form (hangs_if asked (length inputs) campaign.steps left)
    (ending_seeing campaign.form (words_seen campaign.report campaign.words left)
    (ending_with campaign.form campaign.report (judged campaign.expect.rule inputs choices left.harts) (judged_over campaign.properties world choices) left.harts)))
    unasked

-- the run of a seed is that over the list of its choices
pub ending-listed : (campaign : Campaign) (inputs : List ℕ) (seed : ℕ) (start : World) (choices : List Choice) (ending : EndingValue)
    → choices ≡ drawn_choices campaign.draw start (length inputs) campaign.steps seed → ending ≡ ending_after start campaign inputs choices
    → record { seed = seed; ending = ending } ≡ ending_from start campaign inputs seed
unfolding ending_from
ending-listed campaign inputs seed start choices ending drawn is =
    ap {A = EndingValue} {B = SeedEnding} (λ e. record { seed = seed; ending = e }) (is ∙ ap (ending_after start campaign inputs) drawn)

-- the runs from the world in which a program begins are its runs
pub endings-started : (campaign : Campaign) (image : ImageValue) (inputs seeds : List ℕ) (start : World) → start ≡ started image inputs
    → map (ending_from start campaign inputs) seeds ≡ endings_of campaign image inputs seeds
unfolding endings_of
endings-started campaign image inputs seeds start begun = ap (λ w. map (ending_from w campaign inputs) seeds) begun

-- one run more
pub one_run_more : {X Y : Type 0} (g : Y → X) (f : ℕ → X) (first place : ℕ) (ys : List Y) (y : Y)
    → map g ys ≡ map f (range_with_len first place) → g y ≡ f (first + place)
    → map g (ys ++ y ∷ []) ≡ map f (range_with_len first (place + 1))
one_run_more g f first place ys y before this =
    map-append g ys (y ∷ [])
    ∙ ap₂ (λ xs x. xs ++ x ∷ []) before this
    ∙ sym (map-range_with_len_more f first place (first + place) refl)

-- places that are counted from 0, and numbers that are counted from a first one
map-shifted : {X : Type 0} (f : ℕ → X) (a b n : ℕ) → map (λ place. f (a + place)) (range_with_len b n) ≡ map f (range_with_len (a + b) n)
map-shifted f a b zero = refl
map-shifted f a b (suc n) =
    let next : a + (b + 1) ≡ a + b + 1 = omega arith in
    ap (λ xs. f (a + b) ∷ xs) (map-shifted f a (b + 1) n ∙ ap (λ k. map f (range_with_len k n)) next)

abbrev all_ok : {Z : Type 0} → List (SeedEnd Z) → List (Result (SeedEnd Z) AllocError)
all_ok ys = map Ok ys

-- the end of a seed's run
abbrev EndsSo : {Z : Type 0} → (ℕ → SeedEnding) → ℕ → ℕ → Result (SeedEnd Z) AllocError → Type 0
EndsSo f first place r = IfOk r (λ end. seed_ending end ≡ f (first + place))

module _ {Z : Type 0} (f : ℕ → SeedEnding) (first : ℕ) where
  listed : (zs : List ℕ) (ys : List (SeedEnd Z)) → AllZip (EndsSo f first) zs (all_ok ys)
      → map seed_ending ys ≡ map (λ place. f (first + place)) zs
  listed [] [] h = refl
  listed [] (y ∷ ys) h = absurd h
  listed (z ∷ zs) [] h = absurd h
  listed (z ∷ zs) (y ∷ ys) h = ap₂ (λ x xs. x ∷ xs) h.0 (listed zs ys h.1)

  -- where each place has the end of its seed's run, the list has those of all seeds
  pub all-listed : (count : ℕ) (r : Result (Vec (SeedEnd Z) Z) AllocError) (zs : List ℕ) (xs : List (Result (SeedEnd Z) AllocError))
      → zs ≡ range_with_len 0 count → AllZip (EndsSo f first) zs xs
      → MatchResult r (λ v. (ys : List (SeedEnd Z)) × (xs ≡ all_ok ys) × (v.items ≡ ys)) (λ e. Contains xs (Err e))
      → IfOk r (λ v. map seed_ending v.items ≡ map f (range_with_len first count))
  all-listed count (Ok v) zs xs places each whole =
      let here : first + 0 ≡ first = omega arith in
      ap (map seed_ending) whole.2
      ∙ listed zs whole.0 (subst (AllZip (EndsSo f first) zs) whole.1 each)
      ∙ ap (map (λ place. f (first + place))) places
      ∙ map-shifted f first 0 count
      ∙ ap (λ k. map f (range_with_len k count)) here
  all-listed count (Err e) zs xs places each whole = tt
