-- The runs over a range of schedules, one by one.
use Rattle.std.proofs.Common.{◌≡◌, ℕ, zero, suc, ◌+◌, ◌-◌, ◌≤◌, ◌<◌, ◌||◌, Bool, true, false, cond, List, [], ◌∷◌, take, drop, length, Option, Some, None, append-nil, append_assoc, refl, arith, ap, sym, subst, ◌∙◌}
use Rattle.machine.specs.World.{World}
use Rattle.outcome.specs.declared.expect.Exit.{Exit}
use Rattle.campaign_bounded.specs.Walk.{Led}
use Rattle.cmd_form.specs.declared.form.Form.{Form}
use Rattle.campaign_runs.specs.Ending.{ending_breaks}
use Rattle.campaign_runs.specs.Runs.{SeedEnding, seed_ending}
use Rattle.campaign_runs.specs.declared.seed_run.SeedEnd.{SeedEnd}
use Rattle.campaign_runs.specs.Tally.{TallyRow, seeds_in, tally_onto}
use Rattle.campaign_runs.specs.declared.campaign.Report.{Report}
use Rattle.campaign_runs.specs.declared.campaign.Report.TheVariants.{Lines, Failures, Summary, Outcomes, Causes}
use Rattle.campaign_runs.proofs.TallyLemmas.{seeds_in-add}
use Rattle.cmd_campaign.specs.Lines.{has_failed}
use Rattle.cmd_campaign.specs.Status.{any_breaks, first_failure, first_or}
use Rattle.cmd_campaign.specs.Summary.{counted_of}
use Rattle.cmd_bounded.specs.Lines.{schedule_part, schedule_parts}
use Rattle.cmd_bounded.specs.Runs.{endings_from, schedule_ending, GivesEnd}
use Rattle.cmd_bounded.specs.Told.{ToldValue, TellsRange, failed_number, rows_with, told_after, told_with}
use Rattle.cmd_bounded.specs.declared.bounded.BoundedCampaign.{BoundedCampaign}

module _ (form : Form) (report : Report) (exit : Exit) where
  rows-more : (report : Report) (rows : List TallyRow) (end : SeedEnding) (more : List SeedEnding)
      → tally_onto (rows_with report rows end) (counted_of report more) ≡ tally_onto rows (counted_of report (end ∷ more))
  rows-more Lines rows end more = refl
  rows-more Failures rows end more = refl
  rows-more Summary rows end more = refl
  rows-more Outcomes rows end more = refl
  rows-more Causes rows end more = refl

  or-assoc : (a b c : Bool) → ((a || b) || c) ≡ (a || (b || c))
  or-assoc true b c = refl
  or-assoc false b c = refl

  first-more : (f : Option ℕ) (end : SeedEnding) (more : List SeedEnding)
      → first_or (first_or f (failed_number exit end)) (first_failure exit more) ≡ first_or f (first_failure exit (end ∷ more))
  first-more None end more = by (has_failed exit end)
    where
      by : (failed : Bool) → first_or (cond failed (Some end.seed) None) (first_failure exit more) ≡ cond failed (Some end.seed) (first_failure exit more)
      by true = refl
      by false = refl
  first-more (Some n) end more = refl

  -- one run and then more
  pub told-more : (v : ToldValue) (end : SeedEnding) (more : List SeedEnding)
      → told_after form report exit (told_with form report exit v end) more ≡ told_after form report exit v (end ∷ more)
  told-more v end more = λ i. record {
    text = append_assoc v.text (schedule_part form report exit end) (schedule_parts form report exit more) i;
    rows = rows-more report v.rows end more i;
    is_broken = or-assoc v.is_broken (ending_breaks end.ending) (any_breaks more) i;
    first_failure = first-more v.first_failure end more i;
  }

  rows-none : (report : Report) (rows : List TallyRow) → tally_onto rows (counted_of report []) ≡ rows
  rows-none Lines rows = refl
  rows-none Failures rows = refl
  rows-none Summary rows = refl
  rows-none Outcomes rows = refl
  rows-none Causes rows = refl

  or-none : (b : Bool) → (b || false) ≡ b
  or-none true = refl
  or-none false = refl

  first-none : (f : Option ℕ) → first_or f None ≡ f
  first-none None = refl
  first-none (Some n) = refl

  -- no more
  pub told-none : (v : ToldValue) → told_after form report exit v [] ≡ v
  told-none v = λ i. record {
    text = append-nil v.text i;
    rows = rows-none report v.rows i;
    is_broken = or-none v.is_broken i;
    first_failure = first-none v.first_failure i;
  }

-- one run more is counted at most
pub counted-more : (report : Report) (rows : List TallyRow) (end : SeedEnding) (done : ℕ) → seeds_in rows ≤ done
    → seeds_in (rows_with report rows end) ≤ done + 1
counted-more Lines rows end done h = omega (arith, h)
counted-more Failures rows end done h = omega (arith, h)
counted-more Summary rows end done h = let e = seeds_in-add end rows in omega (arith, h, e)
counted-more Outcomes rows end done h = let e = seeds_in-add end rows in omega (arith, h, e)
counted-more Causes rows end done h = let e = seeds_in-add end rows in omega (arith, h, e)

-- of none there is none
abbrev no_led : List Led
no_led = []

take_none : (n : ℕ) → take n no_led ≡ []
take_none zero = refl
take_none (suc n) = refl

drop_none : (n : ℕ) → drop n no_led ≡ []
drop_none zero = refl
drop_none (suc n) = refl

module _ (campaign : BoundedCampaign) (start : World) (inputs : List ℕ) where
  abbrev pub ends_of : ℕ → ℕ → List Led → List SeedEnding
  ends_of number count leds = endings_from campaign start inputs number (take count leds)

  -- so many of the runs are told
  pub record SoFar (all rest : List Led) (before now : ToldValue) (done : ℕ) : Type 0 where
    pub told : told_after campaign.form campaign.report campaign.expect.exit now (ends_of (campaign.first + done) (campaign.count - done) rest)
        ≡ told_after campaign.form campaign.report campaign.expect.exit before (ends_of campaign.first campaign.count all)
    pub number : done + length (take (campaign.count - done) rest) ≡ length (take campaign.count all)
    pub left : drop (campaign.count - done) rest ≡ drop campaign.count all
    pub few : seeds_in now.rows ≤ done

  pub at_start : (all : List Led) (before : ToldValue) → seeds_in before.rows ≡ 0 → SoFar all all before before 0
  at_start all before none = record {
    told = from_first (omega arith) (omega arith);
    number = let e = ap (λ n. length (take n all)) (whole campaign.count) in omega (arith, e);
    left = ap (λ n. drop n all) (whole campaign.count);
    few = omega (arith, none);
  }
    where
      whole : (n : ℕ) → n - 0 ≡ n
      whole n = omega arith

      from_first : campaign.first + 0 ≡ campaign.first → campaign.count - 0 ≡ campaign.count
          → told_after campaign.form campaign.report campaign.expect.exit before (ends_of (campaign.first + 0) (campaign.count - 0) all)
          ≡ told_after campaign.form campaign.report campaign.expect.exit before (ends_of campaign.first campaign.count all)
      from_first a b = ap (λ n. told_after campaign.form campaign.report campaign.expect.exit before (ends_of n (campaign.count - 0) all)) a
          ∙ ap (λ n. told_after campaign.form campaign.report campaign.expect.exit before (ends_of campaign.first n all)) b

  module _ (all old new : List Led) (before was now : ToldValue) (done : ℕ) (so_far : SoFar all old before was done) where
    -- one more
    pub goes_on : (led : Led) (end : SeedEnding) → done < campaign.count → old ≡ led ∷ new
        → end ≡ schedule_ending campaign start inputs (campaign.first + done) led
        → now ≡ told_with campaign.form campaign.report campaign.expect.exit was end → SoFar all new before now (done + 1)
    goes_on led end there is ended adds =
        let k : campaign.count - done ≡ suc (campaign.count - (done + 1)) = omega (arith, there) in
        let e : take (campaign.count - done) old ≡ led ∷ take (campaign.count - (done + 1)) new
        = ap (λ n. take n old) k ∙ ap (take (suc (campaign.count - (done + 1)))) is in
        let d : drop (campaign.count - done) old ≡ drop (campaign.count - (done + 1)) new
        = ap (λ n. drop n old) k ∙ ap (drop (suc (campaign.count - (done + 1)))) is in
        let n : campaign.first + done + 1 ≡ campaign.first + (done + 1) = omega arith in
        let l = ap length e in
        record {
          told = ap (λ v. told_after campaign.form campaign.report campaign.expect.exit v
              (ends_of (campaign.first + (done + 1)) (campaign.count - (done + 1)) new)) (adds ∙ ap (told_with campaign.form campaign.report campaign.expect.exit was) ended)
              ∙ told-more campaign.form campaign.report campaign.expect.exit was (schedule_ending campaign start inputs (campaign.first + done) led) _
              ∙ ap (λ m. told_after campaign.form campaign.report campaign.expect.exit was
              (schedule_ending campaign start inputs (campaign.first + done) led ∷ ends_of m (campaign.count - (done + 1)) new)) (sym n)
              ∙ ap (λ ls. told_after campaign.form campaign.report campaign.expect.exit was (endings_from campaign start inputs (campaign.first + done) ls)) (sym e)
              ∙ so_far.told;
          number = let h = so_far.number in omega (arith, l, h);
          left = sym d ∙ so_far.left;
          few = subst (λ v. seeds_in v.rows ≤ done + 1) (sym adds) (counted-more campaign.report was.rows end done so_far.few);
        }

    -- the same where one was given
    pub one_told : {Z : Type 0} (next : Option (SeedEnd Z)) (end : SeedEnd Z) → next ≡ Some end
        → GivesEnd campaign start inputs (campaign.first + done) next old new → done < campaign.count
        → now ≡ told_with campaign.form campaign.report campaign.expect.exit was (seed_ending end) → SoFar all new before now (done + 1)
    one_told next end is gives there adds =
        let given : GivesEnd campaign start inputs (campaign.first + done) (Some end) old new
        = subst (λ o. GivesEnd campaign start inputs (campaign.first + done) o old new) is gives in
        goes_on given.0 (seed_ending end) there given.1 given.2 adds

  module _ (all old : List Led) (before was : ToldValue) (done : ℕ) (so_far : SoFar all old before was done) where
    -- none is left
    pub at_none : old ≡ [] → TellsRange campaign start inputs all done before was []
    at_none none =
        let t : take (campaign.count - done) old ≡ [] = ap (take (campaign.count - done)) none ∙ take_none (campaign.count - done) in
        let d : drop (campaign.count - done) old ≡ [] = ap (drop (campaign.count - done)) none ∙ drop_none (campaign.count - done) in
        let l = ap length t in
        let h = so_far.number in
        record {
          told = sym (told-none campaign.form campaign.report campaign.expect.exit was)
              ∙ ap (λ ls. told_after campaign.form campaign.report campaign.expect.exit was (endings_from campaign start inputs (campaign.first + done) ls)) (sym t)
              ∙ so_far.told;
          number = omega (arith, l, h);
          left = sym d ∙ so_far.left;
        }

    -- the range is at its end
    pub at_end : done ≡ campaign.count → TellsRange campaign start inputs all campaign.count before was old
    at_end whole =
        let z : campaign.count - done ≡ 0 = omega (arith, whole) in
        let t : take (campaign.count - done) old ≡ [] = ap (λ n. take n old) z in
        let d : drop (campaign.count - done) old ≡ old = ap (λ n. drop n old) z in
        let l = ap length t in
        let h = so_far.number in
        record {
          told = sym (told-none campaign.form campaign.report campaign.expect.exit was)
              ∙ ap (λ ls. told_after campaign.form campaign.report campaign.expect.exit was (endings_from campaign start inputs (campaign.first + done) ls)) (sym t)
              ∙ so_far.told;
          number = omega (arith, l, h, whole);
          left = sym d ∙ so_far.left;
        }
