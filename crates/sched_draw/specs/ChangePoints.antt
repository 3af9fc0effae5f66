-- Where the change points of schedules by priorities lie.
use Rattle.std.specs.Prelude.{ℕ, min, max}
use Rattle.sched_draw.specs.declared.change_points.ChangePoints.{ChangePoints}
use Rattle.sched_draw.specs.declared.change_points.ChangePoints.TheVariants.{Anywhere, Within}

-- at how many steps of a run, from the first on, change points are drawn: at all, or at some; for a
-- run of no step as for one of a single step
abbrev pub places_of : ChangePoints → ℕ → ℕ
places_of Anywhere steps = max steps 1
places_of (Within first) steps = min first.count (max steps 1)
