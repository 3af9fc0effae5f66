use Rattle.std.proofs.Common.{◌≡◌, ℕ, ◌-◌, ◌≤◌, length}
use Rattle.machine.specs.Machine.{world}
use Rattle.sched_run.specs.Chosen.{harts_of}
use Rattle.sched_draw.specs.Bursts.{burst_choices_drawn}
use Rattle.sched_draw.specs.Partway.{LeadsOn}
use Rattle.sched_draw.proofs.bursts.BurstsChooser.run.Given as goal

abbrev pub invariant-bursts : goal.invariant-bursts
invariant-bursts g l = record {
  harts : length (world g.S.Store.memory l.machine).harts ≡ length (world g.S.Store.memory l.fn.machine).harts;
  is_for : l.self.harts ≡ length (world g.S.Store.memory l.machine).harts;
  begun : l.from ≤ l.step;
  within : l.step ≤ l.to;
  ran : (steps : ℕ) → l.to ≤ steps → LeadsOn
      (burst_choices_drawn (steps - l.from) l.fn.self) (world g.S.Store.memory l.fn.machine) (harts_of l.fn.chosen)
      (burst_choices_drawn (steps - l.step) l.self) (world g.S.Store.memory l.machine) (harts_of l.chosen);
}

abbrev pub decreases-bursts : goal.decreases-bursts
decreases-bursts g l = l.to - l.step
