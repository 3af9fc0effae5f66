-- The schedule that an order asks for.
use Rattle.std.specs.Prelude.{ℕ, ◌^◌, Bool, true, false, List, Option, Some, None, option_map}
use Rattle.std.specs.Borrow.{Bor}
use Rattle.cli_args.specs.Numbers.{number_below}
use Rattle.cmd_schedule.specs.declared.plan.SeedPlan.{SeedPlan}
use Rattle.sched_draw.specs.declared.schedule.Draw.{Draw}
use Rattle.sched_draw.specs.declared.schedule.Schedule.{Schedule}
use Rattle.sched_draw.specs.declared.schedule.Schedule.TheVariants.{Turns, Only, Seeded}

-- the schedule of a seed, of turns or of one hart, if exactly one is given, and how it is drawn
-- only with a seed
abbrev pub schedule_said : Option (Bor (List ℕ)) → Bool → Option (Bor (List ℕ)) → Bool → Draw → Option Schedule
schedule_said (Some seed) false None drawn draw =
    option_map (λ n. Seeded n draw) (number_below (2 ^ 64) seed.now)
schedule_said None true None false draw = Some Turns
schedule_said None false (Some hart) false draw =
    option_map (λ n. Only n) (number_below (2 ^ 32) hart.now)
schedule_said (Some seed) true only drawn draw = None
schedule_said (Some seed) false (Some hart) drawn draw = None
schedule_said None true (Some hart) drawn draw = None
schedule_said None true None true draw = None
schedule_said None false None drawn draw = None
schedule_said None false (Some hart) true draw = None

-- the plan of these numbers of steps and seed
abbrev pub seed_plan_of : Draw → Option ℕ → Option ℕ → Option SeedPlan
seed_plan_of draw None seed = None
seed_plan_of draw (Some steps) None = None
seed_plan_of draw (Some steps) (Some seed) = Some (record { draw = draw; steps = steps; seed = seed })
