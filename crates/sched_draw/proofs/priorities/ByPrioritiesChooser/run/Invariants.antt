use Rattle.std.proofs.Common.{◌≡◌, ℕ, ◌-◌, ◌<◌, ◌≤◌, length}
use Rattle.std.specs.List.{All}
use Rattle.machine.specs.Machine.{world}
use Rattle.sched_run.specs.Chosen.{harts_of}
use Rattle.sched_draw.specs.Drawn.{drawing_watched}
use Rattle.sched_draw.specs.Partway.{LeadsOn}
use Rattle.sched_draw.specs.Priorities.{priority_choices_drawn}
use Rattle.sched_draw.proofs.priorities.ByPrioritiesChooser.run.Given as goal

abbrev pub invariant-runs : goal.invariant-runs
invariant-runs g l = record {
  harts : length (world g.S.Store.memory l.machine).harts ≡ length (world g.S.Store.memory l.fn.machine).harts;
  there : All (λ h. h < length (world g.S.Store.memory l.machine).harts) l.self.priorities.value.order.items;
  within : l.step ≤ l.to;
  ran : (steps : ℕ) → l.to ≤ steps → LeadsOn
      (priority_choices_drawn l.fn.self.refusals l.from (steps - l.from) (drawing_watched l.fn.self) (world g.S.Store.memory l.fn.machine))
      (world g.S.Store.memory l.fn.machine) (harts_of l.fn.chosen)
      (priority_choices_drawn l.self.refusals l.step (steps - l.step) (drawing_watched l.self) (world g.S.Store.memory l.machine))
      (world g.S.Store.memory l.machine) (harts_of l.chosen);
}

abbrev pub decreases-runs : goal.decreases-runs
decreases-runs g l = l.to - l.step
