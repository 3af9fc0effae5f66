-- How many seeds are counted.
use Rattle.std.proofs.Common.{◌≡◌, ℕ, ◌+◌, ◌<◌, ◌≤◌, List, [], ◌∷◌, map, length, drop, get_or, arith, ap, sym, ◌∙◌}
use Rattle.std.proofs.lemmas.List.{drop_more, length-map}
use Rattle.std.proofs.lemmas.List.FromFn.{length-range_with_len}
use Rattle.std.specs.List.{range_with_len}
use Rattle.image.specs.Image.{ImageValue}
use Rattle.machine.specs.Start.{started}
use Rattle.campaign_runs.specs.Ending.{EndingValue, ending_of}
use Rattle.campaign_runs.specs.Runs.{SeedEnding, all_endings, seed_ending, ending_from, endings_of}
use Rattle.campaign_runs.specs.Tally.{TallyRow, add_seed, seeds_in, tally_of, tally_onto}
use Rattle.campaign_runs.specs.declared.campaign.Campaign.{Campaign}
use Rattle.campaign_runs.specs.declared.campaign.Report.{Report}
use Rattle.campaign_runs.specs.declared.campaign.Report.TheVariants.{Lines, Failures, Summary, Outcomes, Causes}
use Rattle.campaign_runs.specs.declared.seed_run.SeedEnd.{SeedEnd}
use Rattle.campaign_runs.proofs.TallyLemmas.{seeds_in-add, seeds_in-onto}
use Rattle.cmd_campaign.specs.Summary.{counted_of}

-- as many endings as seeds are planned
pub as_many : (campaign : Campaign) (image : ImageValue) (inputs : List ℕ) → length (all_endings campaign image inputs) ≡ campaign.count
unfolding endings_of
as_many campaign image inputs =
    length-map (range_with_len campaign.first campaign.count) (ending_from (started image inputs) campaign inputs)
    ∙ length-range_with_len campaign.first campaign.count

-- the tally of endings has as many seeds
pub tallied : (ends : List SeedEnding) → seeds_in (tally_of ends) ≡ length ends
tallied ends = seeds_in-onto [] ends ∙ none_before (length ends)
  where
    none_before : (n : ℕ) → 0 + n ≡ n
    none_before n = omega arith

-- no more runs are counted than are done
pub few_counted : (report : Report) (ends : List SeedEnding) → length (counted_of report ends) ≤ length ends
few_counted Lines ends = omega arith
few_counted Failures ends = omega arith
few_counted Summary ends = omega arith
few_counted Outcomes ends = omega arith
few_counted Causes ends = omega arith

-- the run at a place comes first of those from there on
next_run : {X : Type 0} (runs : List X) (place : ℕ) (run : X) → place < length runs → run ≡ get_or runs place run
    → drop place runs ≡ run ∷ drop (place + 1) runs
next_run runs place run there is = drop_more runs place run there ∙ ap (λ first. first ∷ drop (place + 1) runs) (sym is)

-- one seed more is counted
pub one_seed_more : (one : SeedEnding) (old new : List TallyRow) (before place : ℕ) → new ≡ add_seed one old
    → seeds_in old ≡ before + place → seeds_in new ≡ before + (place + 1)
one_seed_more one old new before place added so_far =
    ap seeds_in added ∙ seeds_in-add one old ∙ ap (λ n. n + 1) so_far ∙ regroup before place
  where
    regroup : (m n : ℕ) → m + n + 1 ≡ m + (n + 1)
    regroup m n = omega arith

-- one end more is counted
module _ {Z : Type 0} (ends : List (SeedEnd Z)) (place : ℕ) (end : SeedEnd Z) (there : place < length ends) (is : end ≡ get_or ends place end)
    (ending : EndingValue) (copied : ending ≡ ending_of end.ending) where
  pub one_end_more : (old new target : List TallyRow) → new ≡ add_seed (record { seed = end.seed; ending = ending }) old
      → tally_onto old (map seed_ending (drop place ends)) ≡ target → tally_onto new (map seed_ending (drop (place + 1) ends)) ≡ target
  one_end_more old new target added so_far =
      ap (λ rows. tally_onto rows (map seed_ending (drop (place + 1) ends)))
      (added ∙ ap (λ e. add_seed (record { seed = end.seed; ending = e }) old) copied)
      ∙ ap (λ left. tally_onto old (map seed_ending left)) (sym (next_run ends place end there is))
      ∙ so_far
