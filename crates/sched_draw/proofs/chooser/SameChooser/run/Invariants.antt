use Rattle.std.proofs.Common.{◌≡◌, ℕ, ◌-◌, ◌≤◌, length}
use Rattle.machine.specs.Machine.{world}
use Rattle.sched_run.specs.Chosen.{harts_of}
use Rattle.sched_draw.specs.Partway.{LeadsOn}
use Rattle.sched_draw.proofs.chooser.SameChooser.run.Given as goal

abbrev pub invariant-steps : goal.invariant-steps
invariant-steps g l = record {
  harts : length (world g.S.Store.memory l.machine).harts ≡ length (world g.S.Store.memory l.fn.machine).harts;
  is_for : g.D.Drawer.harts l.self.0 ≡ length (world g.S.Store.memory l.machine).harts;
  ran : (steps : ℕ) → l.to ≤ steps → LeadsOn
      (g.D.Drawer.drawn l.fn.self.0 l.from (steps - l.from)) (world g.S.Store.memory l.fn.machine) (harts_of l.fn.chosen)
      (g.D.Drawer.drawn l.self.0 l.step (steps - l.step)) (world g.S.Store.memory l.machine) (harts_of l.chosen);
}
