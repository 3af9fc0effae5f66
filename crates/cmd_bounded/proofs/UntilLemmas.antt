-- The runs over schedules up to the first that has failed, one by one.
use Rattle.std.proofs.Common.{◌≡◌, ℕ, zero, suc, ◌+◌, ◌-◌, ◌<◌, Bool, true, false, cond, List, [], ◌∷◌, take, drop, Option, Some, None, refl, arith, ap, sym, subst, ◌∙◌}
use Rattle.machine.specs.World.{World}
use Rattle.outcome.specs.declared.expect.Exit.{Exit}
use Rattle.campaign_bounded.specs.Walk.{Led}
use Rattle.campaign_runs.specs.Runs.{SeedEnding, seed_ending}
use Rattle.campaign_runs.specs.declared.seed_run.SeedEnd.{SeedEnd}
use Rattle.cmd_campaign.specs.Lines.{has_failed}
use Rattle.cmd_campaign.specs.Until.{first_failing}
use Rattle.cmd_bounded.specs.Runs.{endings_from, schedule_ending, GivesEnd}
use Rattle.cmd_bounded.specs.Until.{FindsFirst, found_ending, runs_until}
use Rattle.cmd_bounded.specs.declared.bounded.BoundedCampaign.{BoundedCampaign}
use Rattle.cmd_bounded.proofs.RangeLemmas.{ends_of}

-- of none there is none
abbrev no_led : List Led
no_led = []

take_none : (n : ℕ) → take n no_led ≡ []
take_none zero = refl
take_none (suc n) = refl

module _ (exit : Exit) (end : SeedEnding) (more : List SeedEnding) where
  skipped : has_failed exit end ≡ false → first_failing exit (end ∷ more) ≡ first_failing exit more
  skipped good = ap (λ t. cond t (Some end) (first_failing exit more)) good

  one_more : has_failed exit end ≡ false → runs_until exit (end ∷ more) ≡ suc (runs_until exit more)
  one_more good = ap (λ t. cond t 1 (suc (runs_until exit more))) good

  found : has_failed exit end ≡ true → first_failing exit (end ∷ more) ≡ Some end
  found bad = ap (λ t. cond t (Some end) (first_failing exit more)) bad

  last_one : has_failed exit end ≡ true → runs_until exit (end ∷ more) ≡ 1
  last_one bad = ap (λ t. cond t 1 (suc (runs_until exit more))) bad

module _ (campaign : BoundedCampaign) (start : World) (inputs : List ℕ) where
  abbrev ends : ℕ → ℕ → List Led → List SeedEnding
  ends number count leds = ends_of campaign start inputs number count leds

  -- so many of the runs are done, and none of them has failed
  pub record NoneSoFar (all rest : List Led) (done : ℕ) : Type 0 where
    pub first : first_failing campaign.expect.exit (ends (campaign.first + done) (campaign.count - done) rest)
        ≡ first_failing campaign.expect.exit (ends campaign.first campaign.count all)
    pub number : done + runs_until campaign.expect.exit (ends (campaign.first + done) (campaign.count - done) rest)
        ≡ runs_until campaign.expect.exit (ends campaign.first campaign.count all)
    pub left : (n : ℕ) → drop n rest ≡ drop (done + n) all

  from_first : (all : List Led) → campaign.first + 0 ≡ campaign.first → campaign.count - 0 ≡ campaign.count
      → ends (campaign.first + 0) (campaign.count - 0) all ≡ ends campaign.first campaign.count all
  from_first all a b = ap (λ n. ends n (campaign.count - 0) all) a ∙ ap (λ n. ends campaign.first n all) b

  pub none_at_start : (all : List Led) → NoneSoFar all all 0
  none_at_start all =
      let e = from_first all (omega arith) (omega arith) in
      record {
        first = ap (first_failing campaign.expect.exit) e;
        number = let h = ap (runs_until campaign.expect.exit) e in omega (arith, h);
        left = λ n. ap (λ k. drop k all) (zero_more n);
      }
    where
      zero_more : (n : ℕ) → n ≡ 0 + n
      zero_more n = omega arith

  -- the runs that are left begin with the next one
  module _ (old new : List Led) (done : ℕ) (led : Led) (there : done < campaign.count) (is : old ≡ led ∷ new) where
    abbrev end_here : SeedEnding
    end_here = schedule_ending campaign start inputs (campaign.first + done) led

    whole : ends (campaign.first + done) (campaign.count - done) old
        ≡ end_here ∷ ends (campaign.first + (done + 1)) (campaign.count - (done + 1)) new
    whole =
        let k : campaign.count - done ≡ suc (campaign.count - (done + 1)) = omega (arith, there) in
        let e : take (campaign.count - done) old ≡ led ∷ take (campaign.count - (done + 1)) new
        = ap (λ n. take n old) k ∙ ap (take (suc (campaign.count - (done + 1)))) is in
        let n : campaign.first + done + 1 ≡ campaign.first + (done + 1) = omega arith in
        ap (endings_from campaign start inputs (campaign.first + done)) e
        ∙ ap (λ m. end_here ∷ ends m (campaign.count - (done + 1)) new) n

    behind : (all : List Led) → ((n : ℕ) → drop n old ≡ drop (done + n) all) → (n : ℕ) → drop n new ≡ drop (done + 1 + n) all
    behind all left n =
        let m : done + suc n ≡ done + 1 + n = omega arith in
        sym (ap (drop (suc n)) is) ∙ left (suc n) ∙ ap (λ k. drop k all) m

    -- it hasn't failed
    pub none_yet : (all : List Led) → NoneSoFar all old done → has_failed campaign.expect.exit end_here ≡ false
        → NoneSoFar all new (done + 1)
    none_yet all so_far good =
        let more = ends (campaign.first + (done + 1)) (campaign.count - (done + 1)) new in
        let w = ap (runs_until campaign.expect.exit) whole in
        let o = one_more campaign.expect.exit end_here more good in
        let h = so_far.number in
        record {
          first = sym (skipped campaign.expect.exit end_here more good) ∙ sym (ap (first_failing campaign.expect.exit) whole) ∙ so_far.first;
          number = omega (arith, w, o, h);
          left = behind all so_far.left;
        }

    -- it has failed
    pub found_here : (all : List Led) → NoneSoFar all old done → has_failed campaign.expect.exit end_here ≡ true
        → FindsFirst campaign start inputs all (done + 1) (Some end_here) new
    found_here all so_far bad =
        let more = ends (campaign.first + (done + 1)) (campaign.count - (done + 1)) new in
        let w = ap (runs_until campaign.expect.exit) whole in
        let o = last_one campaign.expect.exit end_here more bad in
        let h = so_far.number in
        let z : done + 1 + 0 ≡ done + 1 = omega arith in
        record {
          number = omega (arith, w, o, h);
          first = sym (found campaign.expect.exit end_here more bad) ∙ sym (ap (first_failing campaign.expect.exit) whole) ∙ so_far.first;
          left = behind all so_far.left 0 ∙ ap (λ k. drop k all) z;
        }

  module _ (all old new : List Led) (done : ℕ) (so_far : NoneSoFar all old done) where
    -- the next run is given, and hasn't failed
    pub goes_on_good : {Z : Type 0} (next : Option (SeedEnd Z)) (end : SeedEnd Z) → next ≡ Some end
        → GivesEnd campaign start inputs (campaign.first + done) next old new → done < campaign.count
        → has_failed campaign.expect.exit (seed_ending end) ≡ false → NoneSoFar all new (done + 1)
    goes_on_good next end is gives there good =
        let given : GivesEnd campaign start inputs (campaign.first + done) (Some end) old new
        = subst (λ o. GivesEnd campaign start inputs (campaign.first + done) o old new) is gives in
        none_yet old new done given.0 there given.1 all so_far (subst (λ e. has_failed campaign.expect.exit e ≡ false) given.2 good)

    -- it is given, and has failed
    pub stops_bad : {Z : Type 0} (next : Option (SeedEnd Z)) (end : SeedEnd Z) → next ≡ Some end
        → GivesEnd campaign start inputs (campaign.first + done) next old new → done < campaign.count
        → has_failed campaign.expect.exit (seed_ending end) ≡ true
        → FindsFirst campaign start inputs all (done + 1) (Some (seed_ending end)) new
    stops_bad next end is gives there bad =
        let given : GivesEnd campaign start inputs (campaign.first + done) (Some end) old new
        = subst (λ o. GivesEnd campaign start inputs (campaign.first + done) o old new) is gives in
        subst (λ e. FindsFirst campaign start inputs all (done + 1) (Some e) new) (sym given.2)
        (found_here old new done given.0 there given.1 all so_far (subst (λ e. has_failed campaign.expect.exit e ≡ true) given.2 bad))

  -- no more of them is done
  module _ (all rest : List Led) (done : ℕ) (so_far : NoneSoFar all rest done) where
    stopped : take (campaign.count - done) rest ≡ [] → FindsFirst campaign start inputs all done None rest
    stopped none =
        let e = ap (endings_from campaign start inputs (campaign.first + done)) none in
        let u = ap (runs_until campaign.expect.exit) e in
        let h = so_far.number in
        let z : done + 0 ≡ done = omega arith in
        record {
          number = omega (arith, u, h);
          first = sym (ap (first_failing campaign.expect.exit) e) ∙ so_far.first;
          left = so_far.left 0 ∙ ap (λ k. drop k all) z;
        }

    -- none is left
    pub none_is_left : {Z : Type 0} (new : List Led) (next : Option (SeedEnd Z)) → next ≡ None
        → GivesEnd campaign start inputs (campaign.first + done) next rest new
        → FindsFirst campaign start inputs all done None new
    none_is_left {Z = Z} new next is gives =
        let given : GivesEnd {Z = Z} campaign start inputs (campaign.first + done) None rest new
        = subst (λ o. GivesEnd campaign start inputs (campaign.first + done) o rest new) is gives in
        subst (FindsFirst campaign start inputs all done None) (given.0 ∙ sym given.1)
        (stopped (ap (take (campaign.count - done)) given.0 ∙ take_none (campaign.count - done)))

    -- the range is at its end
    pub whole_range : done ≡ campaign.count → FindsFirst campaign start inputs all campaign.count None rest
    whole_range at_end =
        let z : campaign.count - done ≡ 0 = omega (arith, at_end) in
        subst (λ n. FindsFirst campaign start inputs all n None rest) at_end (stopped (ap (λ n. take n rest) z))
