use Rattle.std.proofs.Common.{◌≡◌, take, length}
use Rattle.machine.specs.World.{run}
use Rattle.machine.specs.Machine.{world}
use Rattle.machine.proofs.machine.Machine.run.Given as goal

abbrev pub invariant-loop-done : goal.invariant-loop-done
invariant-loop-done g l = record {
  reached : world g.S.Store.memory l.self ≡ run (world g.S.Store.memory l.fn.self) (take l.done l.choices);
  harts : length (world g.S.Store.memory l.self).harts ≡ length (world g.S.Store.memory l.fn.self).harts;
}
