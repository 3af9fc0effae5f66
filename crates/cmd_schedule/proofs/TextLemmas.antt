-- Texts of a schedule's choices, read back.
use Rattle.std.proofs.Common.{◌≡◌, ℕ, ◌^◌, ◌<◌, List, [], Ok, arith, ap, length, refl, subst, sym, ◌∙◌}
use Rattle.std.specs.List.{All}
use Rattle.image.specs.Image.{ImageValue}
use Rattle.machine.specs.Start.{IsStartable, started}
use Rattle.machine.specs.World.{World}
use Rattle.machine.specs.declared.choice.Choice.{Choice}
use Rattle.sched_text.specs.Printing.{choices_text}
use Rattle.sched_text.specs.Reading.{choices_read}
use Rattle.sched_text.proofs.Agreement.{choices_of-spelled}
use Rattle.sched_text.proofs.PrintLemmas.{text_spells}
use Rattle.sched_draw.specs.Schedules.{choices_of as made_of, drawn_choices}
use Rattle.sched_draw.proofs.ChoiceLemmas.{drawn_choices-within, schedule-within}
use Rattle.campaign_runs.specs.Runs.{ending_from}
use Rattle.campaign_runs.specs.declared.campaign.Campaign.{Campaign}
use Rattle.cmd_schedule.specs.Plans.{IsScheduleText}
use Rattle.cmd_schedule.specs.Seeds.{EndsAsTold}
use Rattle.cmd_schedule.specs.declared.plan.Plan.{Plan}

-- choices of harts that exist are read from their text
pub read_back : (harts : ℕ) (choices : List Choice) → harts < 2 ^ 32 → All (λ c. c.hart < harts) choices
    → choices_read harts (choices_text choices) ≡ Ok choices
read_back harts choices few within =
    choices_of-spelled harts (choices_text choices) choices few (text_spells harts choices few within)

-- a world, of no program
nowhere : World
nowhere = started (record { entry = 0; segments = [] }) []

-- the text of a plan's choices
pub made_text : (plan : Plan) (choices : List Choice) (text : List ℕ)
    → ((w : World) → choices ≡ made_of plan.schedule w plan.harts plan.steps) → text ≡ choices_text choices → IsScheduleText plan text
made_text plan choices text made printed =
    let within : All (λ c. c.hart < plan.harts) choices =
    subst (All (λ (c : Choice). c.hart < plan.harts)) (sym (made nowhere)) (schedule-within plan.schedule nowhere plan.harts plan.steps plan.of) in
    record {
      choices = choices;
      made = made;
      printed = printed;
      read = ap (choices_read plan.harts) printed ∙ read_back plan.harts choices (omega (arith, plan.few)) within;
    }

pub ends_as_told : (campaign : Campaign) (image : ImageValue) (inputs : List ℕ) (seed : ℕ) → IsStartable inputs
    → EndsAsTold campaign image inputs seed (choices_text (drawn_choices campaign.draw (started image inputs) (length inputs) campaign.steps seed))
unfolding ending_from
ends_as_told campaign image inputs seed startable =
    let some = startable.0 in
    let few = startable.1 in
    let choices = drawn_choices campaign.draw (started image inputs) (length inputs) campaign.steps seed in
    record {
      choices = choices;
      read = read_back (length inputs) choices (omega (arith, few))
          (drawn_choices-within campaign.draw (started image inputs) (length inputs) campaign.steps seed some);
      ends = refl;
    }
