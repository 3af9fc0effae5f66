-- The status of one run, and of runs of which it isn't decided whether they hang.
use Rattle.std.proofs.Common.{◌≡◌, ℕ, Bool, true, false, cond, ◌||◌, List, [], ◌∷◌, length, Some, None, refl, ap, ap₂, sym, ◌∙◌}
use Rattle.std.specs.Prelude.{is_some}
use Rattle.image.specs.Image.{ImageValue}
use Rattle.machine.specs.Start.{started}
use Rattle.machine.specs.World.{run}
use Rattle.sched_draw.specs.Schedules.{drawn_choices}
use Rattle.outcome.specs.Expect.{status_by}
use Rattle.outcome.specs.declared.expect.Exit.{Exit}
use Rattle.run_hangs.specs.Asked.{hangs_if}
use Rattle.run_hangs.specs.Status.{status_of_hang}
use Rattle.run_hangs.specs.declared.asked.Hangs.TheVariants.{Unasked}
use Rattle.run_hangs.specs.declared.status.RunStatus.TheVariants as run_status
use Rattle.campaign_runs.specs.Ending.{does_hang, ending_breaks, ending_faults}
use Rattle.campaign_runs.specs.Runs.{SeedEnding, ending_from, endings_of}
use Rattle.campaign_runs.specs.declared.campaign.Campaign.{Campaign}
use Rattle.cmd_campaign.specs.Lines.{has_failed}
use Rattle.cmd_campaign.specs.Status.{any_breaks, any_faults, campaign_end, campaign_status, ending_status, finished_of, first_failure, run_status as status_after}

or_none : (b : Bool) → (b || false) ≡ b
or_none true = refl
or_none false = refl

pub status_of_one : (exit : Exit) (end : SeedEnding) → campaign_status exit (end ∷ []) ≡ ending_status exit end.ending
status_of_one exit end =
    ap₂ status_by (or_none (ending_breaks end.ending)) (or_none (ending_faults exit end.ending))

-- where some run has failed exactly if one has failed otherwise than by a hang, none has by a hang alone
no_hang : (broken failed : Bool) → status_of_hang failed (status_by broken failed) ≡ run_status.Of (status_by broken failed)
no_hang true true = refl
no_hang true false = refl
no_hang false true = refl
no_hang false false = refl

module _ (campaign : Campaign) (image : ImageValue) (inputs : List ℕ) (exit : Exit) (unasked : campaign.hangs ≡ Unasked) where
  end : ℕ → SeedEnding
  end seed = ending_from (started image inputs) campaign inputs seed

  undecided : (seed : ℕ) → (end seed).ending.hangs ≡ None
  unfolding end ending_from
  undecided seed =
      let choices = drawn_choices campaign.draw (started image inputs) (length inputs) campaign.steps seed in
      ap (λ asked. hangs_if asked (length inputs) campaign.steps (run (started image inputs) choices)) unasked

  same_failure : (seed : ℕ) → has_failed exit (end seed) ≡ ending_faults exit (end seed).ending
  same_failure seed =
      ap (λ h. ending_faults exit (end seed).ending || does_hang h) (undecided seed) ∙ or_none (ending_faults exit (end seed).ending)

  same_failures : (seeds : List ℕ)
      → is_some (first_failure exit (endings_of campaign image inputs seeds)) ≡ any_faults exit (endings_of campaign image inputs seeds)
  unfolding endings_of end
  same_failures [] = refl
  same_failures (seed ∷ seeds) =
      ap (λ b. is_some (cond b (Some (end seed).seed) (first_failure exit (endings_of campaign image inputs seeds)))) (same_failure seed)
      ∙ by (ending_faults exit (end seed).ending) (same_failures seeds)
    where
      by : (b : Bool)
          → is_some (first_failure exit (endings_of campaign image inputs seeds)) ≡ any_faults exit (endings_of campaign image inputs seeds)
          → is_some (cond b (Some (end seed).seed) (first_failure exit (endings_of campaign image inputs seeds)))
          ≡ (b || any_faults exit (endings_of campaign image inputs seeds))
      by true rest = refl
      by false rest = rest

  pub status_unasked : (seeds : List ℕ)
      → status_after (campaign_end exit (endings_of campaign image inputs seeds)) ≡ run_status.Of (finished_of exit (endings_of campaign image inputs seeds)).status
  status_unasked seeds =
      let ends = endings_of campaign image inputs seeds in
      let failed = is_some (first_failure exit ends) in
      ap (λ b. status_of_hang failed (status_by (any_breaks ends) b)) (sym (same_failures seeds))
      ∙ no_hang (any_breaks ends) failed
