-- The report of a range of schedules.
use Rattle.std.proofs.Common.{◌≡◌, ℕ, suc, ◌+◌, List, [], ◌∷◌, ◌++◌, take, length, refl, ap, ap₂, sym, ◌∙◌}
use Rattle.std.specs.Prelude.{is_some}
use Rattle.machine.specs.World.{World}
use Rattle.outcome.specs.Expect.{status_by}
use Rattle.campaign_bounded.specs.Walk.{Led}
use Rattle.campaign_runs.specs.Runs.{SeedEnding}
use Rattle.campaign_runs.specs.Tally.{tally_of}
use Rattle.cmd_campaign.specs.Summary.{counted_of}
use Rattle.cmd_campaign.specs.declared.engine.Finished.{Finished}
use Rattle.cmd_bounded.specs.Answers.{reported_range}
use Rattle.cmd_bounded.specs.Lines.{covered_line, schedule_parts, schedules_entries}
use Rattle.cmd_bounded.specs.Runs.{endings_from}
use Rattle.cmd_bounded.specs.Told.{ToldValue, TellsRange, nothing_told, told_after}
use Rattle.cmd_bounded.specs.declared.bounded.BoundedCampaign.{BoundedCampaign}

module _ (campaign : BoundedCampaign) (start : World) (inputs : List ℕ) where
  -- as many runs as schedules
  length-endings : (number : ℕ) (leds : List Led) → length (endings_from campaign start inputs number leds) ≡ length leds
  length-endings number [] = refl
  length-endings number (led ∷ more) = ap suc (length-endings (number + 1) more)

  -- the runs of the range
  abbrev range_ends : List Led → List SeedEnding
  range_ends old = endings_from campaign start inputs campaign.first (take campaign.count old)

  pub range_reported : (old new : List Led) (count : ℕ) (before after : ToldValue) (lines text : List ℕ) (finished : Finished)
      → before ≡ nothing_told → TellsRange campaign start inputs old count before after new
      → finished.status ≡ status_by after.is_broken (is_some after.first_failure) → finished.first_failure ≡ after.first_failure
      → finished.seeds ≡ count
      → lines ≡ after.text ++ schedules_entries campaign.form after.rows → text ≡ lines ++ covered_line campaign count new
      → (text, finished) ≡ reported_range campaign start inputs old
  unfolding reported_range
  range_reported old new count before after lines text finished empty tells status first runs rows covered =
      let ends = range_ends old in
      let v : after ≡ told_after campaign.form campaign.report campaign.expect.exit nothing_told ends
      = tells.told ∙ ap (λ b. told_after campaign.form campaign.report campaign.expect.exit b ends) empty in
      let n : count ≡ length ends = tells.number ∙ sym (length-endings campaign.first (take campaign.count old)) in
      let body : lines ≡ schedule_parts campaign.form campaign.report campaign.expect.exit ends ++ schedules_entries campaign.form (tally_of (counted_of campaign.report ends))
      = rows ∙ ap (λ (u : ToldValue). u.text ++ schedules_entries campaign.form u.rows) v in
      let whole = covered ∙ ap (λ ls. ls ++ covered_line campaign count new) body
      ∙ ap₂ (λ c left. (schedule_parts campaign.form campaign.report campaign.expect.exit ends ++ schedules_entries campaign.form (tally_of (counted_of campaign.report ends)))
      ++ covered_line campaign c left) n tells.left in
      λ i. (
        whole i,
        record {
          status = (status ∙ ap (λ (u : ToldValue). status_by u.is_broken (is_some u.first_failure)) v) i;
          first_failure = (first ∙ ap (λ (u : ToldValue). u.first_failure) v) i;
          seeds = (runs ∙ n) i;
        },
      )
