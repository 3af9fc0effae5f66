use Rattle.std.proofs.Common.{◌≡◌, ℕ, ◌-◌, ◌<◌, ◌≤◌, true, false, length}
use Rattle.std.specs.List.{All}
use Rattle.machine.specs.Machine.{world}
use Rattle.machine.specs.Running.{runs}
use Rattle.sched_run.specs.Chosen.{harts_of}
use Rattle.sched_draw.specs.Drawn.{drawing_watched}
use Rattle.sched_draw.specs.Partway.{LeadsOn}
use Rattle.sched_draw.specs.Priorities.{first_running, priority_choices_drawn}
use Rattle.sched_draw.proofs.priorities.ByPriorities.run_first.Given as goal

-- while the hart goes on it is the first that runs
abbrev pub invariant-steps : goal.invariant-steps
invariant-steps g l = record {
  harts : length (world g.S.Store.memory l.machine).harts ≡ length (world g.S.Store.memory l.fn.machine).harts;
  there : All (λ h. h < length (world g.S.Store.memory l.machine).harts) l.self.priorities.value.order.items;
  hart : l.hart < length (world g.S.Store.memory l.machine).harts;
  first : l.stays ≡ true → l.hart ≡ first_running (world g.S.Store.memory l.machine).harts l.self.priorities.value.order.items;
  goes : l.stays ≡ true → l.goes ≡ runs (world g.S.Store.memory l.machine).harts l.hart;
  points : l.self.priorities.value.points.items ≡ l.fn.self.priorities.value.points.items;
  refusals : l.self.refusals ≡ l.fn.self.refusals;
  begun : l.from ≤ l.step;
  moved : l.stays ≡ false → l.from < l.step;
  within : l.step ≤ l.to;
  ran : (steps : ℕ) → l.to ≤ steps → LeadsOn
      (priority_choices_drawn l.fn.self.refusals l.from (steps - l.from) (drawing_watched l.fn.self) (world g.S.Store.memory l.fn.machine))
      (world g.S.Store.memory l.fn.machine) (harts_of l.fn.chosen)
      (priority_choices_drawn l.self.refusals l.step (steps - l.step) (drawing_watched l.self) (world g.S.Store.memory l.machine))
      (world g.S.Store.memory l.machine) (harts_of l.chosen);
}

abbrev pub decreases-steps : goal.decreases-steps
decreases-steps g l = l.to - l.step
