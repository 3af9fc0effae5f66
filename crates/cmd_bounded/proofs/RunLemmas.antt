-- The schedules that a walk begins with.
use Rattle.std.proofs.Common.{◌≡◌, ℕ, List, length, ap, ◌∙◌}
use Rattle.image.specs.Image.{ImageValue}
use Rattle.machine.specs.World.{World}
use Rattle.machine.specs.Start.{started}
use Rattle.campaign_bounded.specs.Bounded.{schedules}
use Rattle.campaign_bounded.specs.Walk.{Led, led_from}
use Rattle.cmd_bounded.specs.Runs.{every_schedule}
use Rattle.cmd_bounded.specs.declared.bounded.BoundedCampaign.{BoundedCampaign}

pub walk_begun : (campaign : BoundedCampaign) (image : ImageValue) (inputs : List ℕ) (w : World) (harts : ℕ) (left : List Led)
    → left ≡ led_from w (schedules harts campaign.steps campaign.preemptions w) → harts ≡ length inputs → w ≡ started image inputs
    → left ≡ every_schedule campaign image inputs
unfolding every_schedule
walk_begun campaign image inputs w harts left is counted begun =
    is ∙ ap (λ n. led_from w (schedules n campaign.steps campaign.preemptions w)) counted
    ∙ ap (λ v. led_from v (schedules (length inputs) campaign.steps campaign.preemptions v)) begun
