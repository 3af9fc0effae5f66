-- Mixed schedules: a seed draws evenly, in bursts or by priorities.
use Rattle.std.specs.Prelude.{ℕ, ◌%◌, ◌==◌, List, if◌then◌else◌}
use Rattle.machine.specs.World.{World}
use Rattle.machine.specs.declared.choice.Choice.{Choice}
use Rattle.sched_draw.specs.Bursts.{burst_choices}
use Rattle.sched_draw.specs.ChangePoints.{places_of}
use Rattle.sched_draw.specs.Limits.{mixed_depth, mixed_mean}
use Rattle.sched_draw.specs.Priorities.{priority_choices}
use Rattle.sched_draw.specs.Refusing.{even_choices}
use Rattle.sched_draw.specs.declared.change_points.ChangePoints.{ChangePoints}
use Rattle.sched_draw.specs.declared.refusals.Refusals.{Refusals}

-- the choices of a run of n steps from a world: those that the same seed draws evenly if its
-- remainder by 3 is 0, in bursts if it is 1, and by priorities if it is 2
abbrev pub mixed_choices : World → ℕ → ChangePoints → Refusals → ℕ → ℕ → List Choice
mixed_choices world harts points refusals steps seed =
    if seed % 3 == 0 then even_choices refusals harts steps seed
    else if seed % 3 == 1 then burst_choices refusals harts mixed_mean steps seed
    else priority_choices world harts mixed_depth (places_of points steps) refusals steps seed
