-- Plans of schedules that are the same in each run, and the texts of their choices.
use Rattle.std.specs.Prelude.{◌≡◌, ℕ, ◌<◌, ◌≤◌, ◌⊎◌, false, List}
use Rattle.std.specs.declared.result.Result.TheVariants.{Ok}
use Rattle.hart_reservations.specs.Limit.{most_harts}
use Rattle.machine.specs.World.{World}
use Rattle.machine.specs.declared.choice.Choice.{Choice}
use Rattle.sched_text.specs.Printing.{choices_text}
use Rattle.sched_text.specs.Reading as texts
use Rattle.sched_draw.specs.Schedules.{choices_of, is_of_harts}
use Rattle.sched_draw.specs.declared.schedule.Schedule.{Schedule}
use Rattle.cmd_schedule.specs.declared.plan.Plan.{Plan}
use Rattle.cmd_schedule.specs.declared.plan.PlanFault.{PlanFault}
use Rattle.cmd_schedule.specs.declared.plan.PlanFault.TheVariants.{BadHarts, NoHart}

-- a plan has this number of harts, these steps and this schedule
abbrev pub IsPlanOf : ℕ → ℕ → Schedule → Plan → Type 0
IsPlanOf harts steps schedule plan =
    (plan.harts ≡ harts) × (plan.steps ≡ steps) × (plan.schedule ≡ schedule)

-- why there is no plan: the number of harts is checked first
abbrev pub RefusesSchedule : ℕ → Schedule → PlanFault → Type 0
RefusesSchedule harts schedule BadHarts = (harts ≡ 0) ⊎ (most_harts < harts)
RefusesSchedule harts schedule NoHart = (0 < harts) × (harts ≤ most_harts) × (is_of_harts schedule harts ≡ false)

-- a text is the choice text of a plan's choices, which are the same in each run, and reading it for
-- as many harts gives them
pub record IsScheduleText (plan : Plan) (text : List ℕ) : Type 0 where
  pub choices : List Choice
  pub made : (w : World) → choices ≡ choices_of plan.schedule w plan.harts plan.steps
  pub printed : text ≡ choices_text choices
  pub read : texts.choices_read plan.harts text ≡ Ok choices
