-- Each choice of a schedule is of a hart that exists.
use Rattle.std.proofs.Common.{◌≡◌, ℕ, ◌<◌, ◌%◌, ◌==◌, Bool, true, false, if◌then◌else◌, ap, sym, ◌∙◌}
use Rattle.std.proofs.lemmas.Bool.{ltb-true}
use Rattle.std.specs.List.{All}
use Rattle.machine.specs.World.{World}
use Rattle.sched_draw.specs.declared.refusals.Refusals.{Refusals}
use Rattle.sched_draw.proofs.RefusalLemmas.{even-within, usual-choices}
use Rattle.sched_draw.specs.Bursts.{burst_choices}
use Rattle.sched_draw.specs.ChangePoints.{places_of}
use Rattle.sched_draw.specs.Limits.{mixed_depth, mixed_mean}
use Rattle.sched_draw.specs.Mixed.{mixed_choices}
use Rattle.sched_draw.specs.Refusing.{even_choices, IsOneIn}
use Rattle.sched_draw.specs.Seeds.{seeded_choices}
use Rattle.sched_draw.proofs.BurstLemmas.{burst_choices-within}
use Rattle.sched_draw.specs.Priorities.{priority_choices, watched_drawing}
use Rattle.sched_draw.proofs.PriorityLemmas.{drawn-within, order-there}
use Rattle.sched_draw.specs.Schedules.{choices_of, drawn_choices, ordered_choices, is_of_harts}
use Rattle.sched_draw.proofs.TurnLemmas.{turns-within, alone-within}
use Rattle.sched_draw.specs.declared.change_points.ChangePoints.{ChangePoints}
use Rattle.sched_draw.specs.declared.schedule.Draw.{Draw}
use Rattle.sched_draw.specs.declared.schedule.Schedule.{Schedule}
use Rattle.sched_draw.specs.declared.schedule.Schedule.TheVariants.{Turns, Only, Seeded}
use Rattle.sched_draw.specs.declared.order.Order.{Order}
use Rattle.sched_draw.specs.declared.order.Order.TheVariants.{Even, Bursts, Priorities, Mixed}

mixed-within : (points : ChangePoints) (refusals : Refusals) (w : World) (n steps seed : ℕ) → 0 < n
    → All (λ c. c.hart < n) (mixed_choices w n points refusals steps seed)
mixed-within points refusals w n steps seed some = by (seed % 3 == 0) (seed % 3 == 1)
  where
    by : (b c : Bool) → All (λ c. c.hart < n) (
        if b then even_choices refusals n steps seed
        else if c then burst_choices refusals n mixed_mean steps seed
        else priority_choices w n mixed_depth (places_of points steps) refusals steps seed
        )
    by true c = even-within refusals n steps seed some
    by false true = burst_choices-within refusals n mixed_mean steps seed some
    by false false =
        drawn-within refusals n 0 steps (watched_drawing n mixed_depth (places_of points steps) seed) w some
        (order-there n mixed_depth (places_of points steps) seed)

ordered-within : (order : Order) (points : ChangePoints) (refusals : Refusals) (w : World) (n steps seed : ℕ) → 0 < n
    → All (λ c. c.hart < n) (ordered_choices order points refusals w n steps seed)
ordered-within Even points refusals w n steps seed some = even-within refusals n steps seed some
ordered-within (Bursts mean) points refusals w n steps seed some = burst_choices-within refusals n mean.choices steps seed some
ordered-within (Priorities depth) points refusals w n steps seed some =
    drawn-within refusals n 0 steps (watched_drawing n depth.number (places_of points steps) seed) w some
    (order-there n depth.number (places_of points steps) seed)
ordered-within Mixed points refusals w n steps seed some = mixed-within points refusals w n steps seed some

pub drawn_choices-within : (draw : Draw) (w : World) (n steps seed : ℕ) → 0 < n → All (λ c. c.hart < n) (drawn_choices draw w n steps seed)
unfolding drawn_choices
drawn_choices-within draw w n steps seed some = ordered-within draw.order draw.points draw.refusals w n steps seed some

pub schedule-within : (schedule : Schedule) (w : World) (n steps : ℕ) → is_of_harts schedule n ≡ true
    → All (λ c. c.hart < n) (choices_of schedule w n steps)
schedule-within Turns w n steps some = turns-within n 0 steps (ltb-true 0 n some)
schedule-within (Only hart) w n steps there = alone-within n hart 0 steps (ltb-true hart n there)
schedule-within (Seeded seed draw) w n steps some = drawn_choices-within draw w n steps seed (ltb-true 0 n some)

-- even choices with the usual refusals are those of a plain seed
pub usual_order : (order : Order) (points : ChangePoints) (refusals : Refusals) (w : World) (harts steps seed : ℕ) → order ≡ Even → IsOneIn 16 refusals
    → seeded_choices harts steps seed ≡ ordered_choices order points refusals w harts steps seed
usual_order order points refusals w harts steps seed evenly usual =
    sym (ap (λ order. ordered_choices order points refusals w harts steps seed) evenly ∙ usual-choices refusals harts steps seed usual)
