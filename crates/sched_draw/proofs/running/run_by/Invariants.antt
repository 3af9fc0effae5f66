use Rattle.std.proofs.Common.{◌-◌, ◌≤◌, length}
use Rattle.machine.specs.Machine.{world}
use Rattle.hart_reservations.specs.Limit.{most_harts}
use Rattle.sched_run.specs.Chosen.{harts_of}
use Rattle.sched_draw.specs.Partway.{Partway}
use Rattle.sched_draw.proofs.running.run_by.Given as goal

abbrev pub invariant-stretches : goal.invariant-stretches
invariant-stretches g l = record {
  few : length (world g.S.Store.memory l.machine).harts ≤ most_harts;
  is_for : g.C.Chooser.IsFor l.chooser (length (world g.S.Store.memory l.machine).harts);
  within : l.from ≤ l.steps;
  so_far : Partway (g.C.Chooser.choices l.fn.chooser 0 l.steps (world g.S.Store.memory l.fn.machine))
      (g.C.Chooser.choices l.chooser l.from (l.steps - l.from) (world g.S.Store.memory l.machine))
      (world g.S.Store.memory l.fn.machine) (world g.S.Store.memory l.machine) (harts_of l.chosen);
}

abbrev pub decreases-stretches : goal.decreases-stretches
decreases-stretches g l = l.steps - l.from
