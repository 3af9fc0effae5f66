use Rattle.std.proofs.Common.{◌≡◌, ◌++◌, ◌-◌, ◌<◌, length}
use Rattle.std.specs.List.{All}
use Rattle.machine.specs.Machine.{world}
use Rattle.sched_draw.specs.Drawn.{drawing_watched}
use Rattle.sched_draw.specs.Priorities.{priority_choices_drawn}
use Rattle.sched_draw.proofs.listing.list_by.Given as goal

-- the choices so far, and then those that are still to be made
abbrev pub invariant-steps : goal.invariant-steps
invariant-steps g l = record {
  some : 0 < length (world g.S.Store.memory l.machine).harts;
  there : All (λ h. h < length (world g.S.Store.memory l.machine).harts) l.chooser.priorities.value.order.items;
  so_far : l.choices.items
      ++ priority_choices_drawn l.chooser.refusals l.step (l.steps - l.step) (drawing_watched l.chooser) (world g.S.Store.memory l.machine)
      ≡ priority_choices_drawn l.fn.chooser.refusals 0 l.steps (drawing_watched l.fn.chooser) (world g.S.Store.memory l.fn.machine);
}
