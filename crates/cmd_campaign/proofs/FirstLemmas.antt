-- The first seeds of a campaign.
use Rattle.std.proofs.Common.{◌≡◌, ℕ, ◌+◌, ◌≤◌, List, [], ◌++◌, length, take, append-nil, arith, ap, sym, ◌∙◌}
use Rattle.std.proofs.Math.Seq.{take-append_seam}
use Rattle.std.proofs.lemmas.List.{length-append}
use Rattle.std.proofs.lemmas.List.FromFn.{take-map-range_with_len}
use Rattle.image.specs.Image.{ImageValue}
use Rattle.machine.specs.Start.{started}
use Rattle.campaign_runs.specs.Runs.{SeedEnding, all_endings, ending_from, endings_of}
use Rattle.campaign_runs.specs.declared.campaign.Campaign.{Campaign}
use Rattle.cmd_campaign.specs.First.{first_endings, first_seeds}
use Rattle.cmd_campaign.proofs.TallyLemmas.{as_many}

-- the campaign of all seeds is the campaign
pub all_seeds : (campaign : Campaign) (seeds : ℕ) → seeds ≡ campaign.count → first_seeds seeds campaign ≡ campaign
all_seeds campaign seeds all = ap (λ n. first_seeds n campaign) all

module _ (campaign : Campaign) (image : ImageValue) (inputs : List ℕ) where
  -- as many seeds as there are
  pub first_of_all : (seeds : ℕ) → seeds ≡ campaign.count → first_endings seeds campaign image inputs ≡ all_endings campaign image inputs
  unfolding endings_of ending_from
  first_of_all seeds all = ap (λ n. first_endings n campaign image inputs) all

  -- the runs that are done are no more than all
  pub no_more : (done left : List SeedEnding) (seeds : ℕ) → all_endings campaign image inputs ≡ done ++ left → seeds ≡ length done
      → seeds ≤ campaign.count
  no_more done left seeds order number =
      let all : campaign.count ≡ length done + length left
      = sym (as_many campaign image inputs) ∙ ap length order ∙ length-append done left in
      omega (arith, all, number)

  -- they are those of the first seeds
  pub first_runs : (done left : List SeedEnding) (seeds : ℕ) → all_endings campaign image inputs ≡ done ++ left → seeds ≡ length done
      → done ≡ first_endings seeds campaign image inputs
  unfolding endings_of ending_from
  first_runs done left seeds order number =
      sym (take-append_seam done left) ∙ ap (λ n. take n (done ++ left)) (sym number) ∙ ap (take seeds) (sym order)
      ∙ take-map-range_with_len (ending_from (started image inputs) campaign inputs) campaign.first campaign.count seeds
      (no_more done left seeds order number)

  -- where none is left, all are done
  pub all_done : (done left : List SeedEnding) (seeds : ℕ) → all_endings campaign image inputs ≡ done ++ left → seeds ≡ length done
      → left ≡ [] → seeds ≡ campaign.count
  all_done done left seeds order number none =
      number ∙ ap length (sym (order ∙ ap (λ rest. done ++ rest) none ∙ append-nil done)) ∙ as_many campaign image inputs
