-- The runs over a program's schedules.
use Rattle.std.specs.Prelude.{◌≡◌, ℕ, ◌+◌, List, [], ◌∷◌, length, Option, Some, None}
use Rattle.image.specs.Image.{ImageValue}
use Rattle.mem_store.specs.Memory.{Memory}
use Rattle.machine.specs.Start.{started}
use Rattle.machine.specs.World.{World}
use Rattle.outcome.specs.Expect.{judged}
use Rattle.campaign_bounded.specs.Bounded.{schedules}
use Rattle.campaign_bounded.specs.Fair.{fair_end}
use Rattle.campaign_bounded.specs.Walk.{Led, led_from, led_of}
use Rattle.campaign_bounded.specs.declared.schedule.Schedule.{Schedule}
use Rattle.campaign_runs.specs.Ending.{EndingValue, ending_with}
use Rattle.campaign_runs.specs.Properties.{judged_over}
use Rattle.campaign_runs.specs.Runs.{SeedEnding, seed_ending}
use Rattle.campaign_runs.specs.declared.seed_run.SeedEnd.{SeedEnd}
use Rattle.cmd_bounded.specs.declared.bounded.BoundedCampaign.{BoundedCampaign}

-- every schedule of a program, in order, with the world that it leads to
unfoldable pub every_schedule : BoundedCampaign → ImageValue → List ℕ → List Led
every_schedule campaign image inputs = led_from (started image inputs)
    (schedules (length inputs) campaign.steps campaign.preemptions (started image inputs))

-- how the run over a list of choices ended that led from a program's start to a world
abbrev pub ending_of_led : BoundedCampaign → World → List ℕ → Led → EndingValue
ending_of_led campaign start inputs led = ending_with campaign.form campaign.report
    (judged campaign.expect.rule inputs led.choices led.world.harts)
    (judged_over campaign.properties start led.choices) led.world.harts

-- a schedule with its fair tail
abbrev pub fair_of : BoundedCampaign → List ℕ → Led → Led
fair_of campaign inputs led = fair_end (length inputs) campaign.steps led

-- a schedule's number, in the place of a seed, and how its run ended
abbrev pub schedule_ending : BoundedCampaign → World → List ℕ → ℕ → Led → SeedEnding
schedule_ending campaign start inputs number led =
    record { seed = number; ending = ending_of_led campaign start inputs (fair_of campaign inputs led) }

-- those of schedules that are numbered from a number on
abbrev pub endings_from : BoundedCampaign → World → List ℕ → ℕ → List Led → List SeedEnding
endings_from campaign start inputs number [] = []
endings_from campaign start inputs number (led ∷ more) =
    schedule_ending campaign start inputs number led ∷ endings_from campaign start inputs (number + 1) more

-- the first of the schedules that were left is given with its fair tail, or none was left
abbrev pub GivesFair : {S Z : Type 0} → (S → Memory) → BoundedCampaign → List ℕ
    → Option (Schedule S Z) → List Led → List Led → Type 0
GivesFair memory campaign inputs None old new = (old ≡ []) × (new ≡ [])
GivesFair memory campaign inputs (Some schedule) old new = (led : Led) × (old ≡ led ∷ new)
    × (led_of memory schedule ≡ fair_of campaign inputs led)

-- the first of the schedules that were left is given by its number and how its run ended, or none
-- was left
abbrev pub GivesEnd : {Z : Type 0} → BoundedCampaign → World → List ℕ → ℕ → Option (SeedEnd Z) → List Led → List Led → Type 0
GivesEnd campaign start inputs number None old new = (old ≡ []) × (new ≡ [])
GivesEnd campaign start inputs number (Some end) old new = (led : Led) × (old ≡ led ∷ new)
    × (seed_ending end ≡ schedule_ending campaign start inputs number led)
