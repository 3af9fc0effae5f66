-- The state of drawing by priorities.
use Rattle.std.specs.Option.{option_map}
use Rattle.hart_step.specs.Hart.{hart_of}
use Rattle.sched_draw.specs.Priorities.{PriorityDrawing, WatchedDrawing}
use Rattle.sched_draw.specs.Spinning.{WatchValue}
use Rattle.sched_draw.specs.declared.priorities.ByPriorities.{ByPriorities}
use Rattle.sched_draw.specs.declared.priorities.Priorities.{Priorities}
use Rattle.sched_draw.specs.declared.spinning.Watch.{Watch}

-- the code's state as a `PriorityDrawing`
abbrev pub drawing : {Z : Type 0} → Priorities Z → PriorityDrawing
drawing p = record { order = p.order.items; points = p.points.items; generator = p.generator }

-- the code's watch as a `WatchValue`
abbrev pub watch_of : Watch → WatchValue
watch_of w = record { hart = w.hart; seen = hart_of w.seen; left = w.left; span = w.span }

-- the code's state with the hart that is watched
abbrev pub drawing_watched : {Z : Type 0} → ByPriorities Z → WatchedDrawing
drawing_watched p = record { drawing = drawing p.priorities.value; watch = option_map watch_of p.watch }
