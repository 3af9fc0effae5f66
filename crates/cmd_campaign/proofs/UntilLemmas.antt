-- The first run that has failed.
use Rattle.std.proofs.Common.{◌≡◌, ℕ, ◌+◌, ◌^◌, ◌<◌, ◌≤◌, Bool, true, false, cond, rules, List, [], ◌∷◌, ◌++◌, length, Option, Some, None, append-nil, append_assoc, refl, arith, ap, ap₂, sym, subst, ◌∙◌}
use Rattle.std.proofs.lemmas.List.{length-append}
use Rattle.std.proofs.lemmas.List.Elements.{All-nil, All-cons}
use Rattle.image.specs.Image.{ImageValue}
use Rattle.outcome.specs.declared.expect.Exit.{Exit}
use Rattle.cmd_form.specs.declared.form.Form.{Form}
use Rattle.campaign_runs.specs.Runs.{SeedEnding, all_endings}
use Rattle.campaign_runs.specs.declared.campaign.Campaign.{Campaign}
use Rattle.cmd_campaign.specs.Lines.{has_failed}
use Rattle.cmd_campaign.specs.Status.{first_failure}
use Rattle.cmd_campaign.specs.declared.engine.Finished.{Finished}
use Rattle.cmd_campaign.specs.Until.{first_failing, ended_at, IsFirstFailing, NoneFailed}
use Rattle.cmd_campaign.specs.First.{first_endings}
use Rattle.cmd_campaign.proofs.FirstLemmas.{first_runs, no_more}
use Rattle.cmd_campaign.proofs.TallyLemmas.{as_many}

module _ (exit : Exit) where
  abbrev Succeeded : SeedEnding → Type 0
  Succeeded run = has_failed exit run ≡ false

  -- one among the runs before is the first of all
  pub failing_in_front : (block left : List SeedEnding) (end : SeedEnding) → first_failing exit block ≡ Some end
      → first_failing exit (block ++ left) ≡ Some end
  failing_in_front [] left end is = absurd (cc)
  failing_in_front (run ∷ block) left end is = by (has_failed exit run) is (failing_in_front block left end)
    where
      by : (failed : Bool) → cond failed (Some run) (first_failing exit block) ≡ Some end
          → (first_failing exit block ≡ Some end → first_failing exit (block ++ left) ≡ Some end)
          → cond failed (Some run) (first_failing exit (block ++ left)) ≡ Some end
      by true e rest = e
      by false e rest = rest e

  -- if none of them has failed, it is the first of the others
  pub failing_behind : (block left : List SeedEnding) → first_failing exit block ≡ None
      → first_failing exit (block ++ left) ≡ first_failing exit left
  failing_behind [] left none = refl
  failing_behind (run ∷ block) left none = by (has_failed exit run) none (failing_behind block left)
    where
      by : (failed : Bool) → cond failed (Some run) (first_failing exit block) ≡ None
          → (first_failing exit block ≡ None → first_failing exit (block ++ left) ≡ first_failing exit left)
          → cond failed (Some run) (first_failing exit (block ++ left)) ≡ first_failing exit left
      by true e rest = absurd (cc)
      by false e rest = rest e

  some_same : (x y : SeedEnding) → Some x ≡ Some y → x ≡ y
  some_same x y e = search (rules, e)

  -- no run before it has failed
  pub is_first : (ends : List SeedEnding) (end : SeedEnding) → first_failing exit ends ≡ Some end → IsFirstFailing exit ends end
  is_first [] end is = absurd (cc)
  is_first (run ∷ ends) end is = by (has_failed exit run) refl is (is_first ends end)
    where
      by : (failed : Bool) → has_failed exit run ≡ failed → cond failed (Some run) (first_failing exit ends) ≡ Some end
          → (first_failing exit ends ≡ Some end → IsFirstFailing exit ends end) → IsFirstFailing exit (run ∷ ends) end
      by true e is rest = record {
        before = [];
        after = ends;
        order = ap (λ first. first ∷ ends) (some_same run end is);
        succeeded = All-nil Succeeded;
        failed = subst (λ one. has_failed exit one ≡ true) (some_same run end is) e;
      }
      by false e is rest =
          let h = rest is in record {
            before = run ∷ h.before;
            after = h.after;
            order = ap (λ more. run ∷ more) h.order;
            succeeded = All-cons Succeeded run h.before e h.succeeded;
            failed = h.failed;
          }

  pub none_failed : (ends : List SeedEnding) → first_failing exit ends ≡ None → NoneFailed exit ends
  none_failed [] none = All-nil Succeeded
  none_failed (run ∷ ends) none = by (has_failed exit run) refl none (none_failed ends)
    where
      by : (failed : Bool) → has_failed exit run ≡ failed → cond failed (Some run) (first_failing exit ends) ≡ None
          → (first_failing exit ends ≡ None → NoneFailed exit ends) → NoneFailed exit (run ∷ ends)
      by true e none rest = absurd (cc)
      by false e none rest = All-cons Succeeded run ends e (rest none)

  -- its seed is the first failure
  pub same_seed : (form : Form) (seeds : ℕ) (ends : List SeedEnding)
      → (ended_at form exit seeds (first_failing exit ends)).1.first_failure ≡ first_failure exit ends
  same_seed form seeds [] = refl
  same_seed form seeds (run ∷ ends) = by (has_failed exit run) (same_seed form seeds ends)
    where
      by : (failed : Bool) → (ended_at form exit seeds (first_failing exit ends)).1.first_failure ≡ first_failure exit ends
          → (ended_at form exit seeds (cond failed (Some run) (first_failing exit ends))).1.first_failure ≡ cond failed (Some run.seed) (first_failure exit ends)
      by true rest = refl
      by false rest = rest

  -- so many runs are done, and none of them has failed; the others are to come
  pub record Unfailed (all left : List SeedEnding) (number : ℕ) : Type 0 where
    pub done : List SeedEnding
    pub order : all ≡ done ++ left
    pub counting : number ≡ length done
    pub none : first_failing exit done ≡ None

  -- so many runs are done, and this is the first of them that has failed
  pub record Failed (all left : List SeedEnding) (number : ℕ) (end : SeedEnding) : Type 0 where
    pub done : List SeedEnding
    pub order : all ≡ done ++ left
    pub counting : number ≡ length done
    pub found : first_failing exit done ≡ Some end

  pub none_yet : (all left : List SeedEnding) → left ≡ all → Unfailed all left 0
  none_yet all left whole = record { done = []; order = sym whole; counting = refl; none = refl }

  -- the seeds that a campaign says it ran
  seeds_of : (form : Form) (n : ℕ) (first : Option SeedEnding) → (ended_at form exit n first).1.seeds ≡ n
  seeds_of form n None = refl
  seeds_of form n (Some end) = refl

  -- no run has failed
  pub ended_without : (form : Form) (text : List ℕ) (n : ℕ) (finished : Finished) → text ≡ [] → ([], finished) ≡ ended_at form exit n None
      → (text, finished) ≡ ended_at form exit n None
  ended_without form text n finished nothing is = ap (λ t. (t, finished)) nothing ∙ is

  -- ---- a block is taken from the seeds that are left
  module _ (all runs block left : List SeedEnding) (number number_now : ℕ) (split : runs ≡ block ++ left) (bigger : number_now ≡ number + length block)
      (h : Unfailed all runs number) where
    order_now : all ≡ (h.done ++ block) ++ left
    order_now = h.order ∙ ap (λ rest. h.done ++ rest) split ∙ sym (append_assoc h.done block left)

    number_of : number_now ≡ length (h.done ++ block)
    number_of = bigger ∙ ap (λ n. n + length block) h.counting ∙ sym (length-append h.done block)

    pub none_in_block : first_failing exit block ≡ None → Unfailed all left number_now
    none_in_block none = record {
      done = h.done ++ block;
      order = order_now;
      counting = number_of;
      none = failing_behind h.done block h.none ∙ none;
    }

    -- one in it has failed
    pub found_in_block : (end : SeedEnding) → first_failing exit block ≡ Some end → Failed all left number_now end
    found_in_block end is = record {
      done = h.done ++ block;
      order = order_now;
      counting = number_of;
      found = failing_behind h.done block h.none ∙ is;
    }

  -- ---- the end of a campaign
  module _ (campaign : Campaign) (image : ImageValue) (inputs : List ℕ) where
    module _ (form : Form) (text : List ℕ) (finished : Finished) (n : ℕ) (first : Option SeedEnding) (told : (text, finished) ≡ ended_at form exit n first)
        (done left : List SeedEnding) (order : all_endings campaign image inputs ≡ done ++ left) (counting : n ≡ length done)
        (found : first_failing exit done ≡ first) where
      seeds : finished.seeds ≡ n
      seeds = ap (λ (answer : List ℕ × Finished). answer.1.seeds) told ∙ seeds_of form n first

      -- what is told is that of the first seeds
      pub told_of_first : (text, finished) ≡ ended_at form exit finished.seeds (first_failing exit (first_endings finished.seeds campaign image inputs))
      told_of_first =
          told ∙ ap₂ (ended_at form exit) (sym seeds)
          (sym found ∙ ap (first_failing exit) (first_runs campaign image inputs done left finished.seeds order (seeds ∙ counting)))

      pub seeds_within : finished.seeds ≤ campaign.count
      seeds_within = no_more campaign image inputs done left finished.seeds order (seeds ∙ counting)

      -- if it is the first of all, so is its seed
      first_told : first_failing exit (all_endings campaign image inputs) ≡ first
          → finished.first_failure ≡ first_failure exit (all_endings campaign image inputs)
      first_told is =
          ap (λ (answer : List ℕ × Finished). answer.1.first_failure) told
          ∙ ap (λ o. (ended_at form exit n o).1.first_failure) (sym is) ∙ same_seed form n (all_endings campaign image inputs)

      pub first_of_failed : (end : SeedEnding) → first ≡ Some end
          → finished.first_failure ≡ first_failure exit (all_endings campaign image inputs)
      first_of_failed end some =
          first_told (ap (first_failing exit) order ∙ failing_in_front done left end (found ∙ some) ∙ sym some)

      pub first_of_none : first ≡ None → left ≡ []
          → finished.first_failure ≡ first_failure exit (all_endings campaign image inputs)
      first_of_none none nothing_left =
          first_told (ap (first_failing exit) (order ∙ ap (λ rest. done ++ rest) nothing_left ∙ append-nil done) ∙ found)

-- the number of seeds so far fits, as that of all does
pub number_fits : (exit : Exit) (campaign : Campaign) (image : ImageValue) (inputs : List ℕ) (runs block left : List SeedEnding) (number count : ℕ)
    → Unfailed exit (all_endings campaign image inputs) runs number → runs ≡ block ++ left → length block ≡ count
    → campaign.count < 2 ^ 64 → number + count < 2 ^ 64
number_fits exit campaign image inputs runs block left number count h split size few =
    let all : campaign.count ≡ length h.done + (length block + length left)
    = sym (as_many campaign image inputs) ∙ ap length (h.order ∙ ap (λ rest. h.done ++ rest) split) ∙ length-append h.done (block ++ left)
    ∙ ap (λ n. length h.done + n) (length-append block left) in
    let done = h.counting in
    omega (arith, all, done, size, few)
