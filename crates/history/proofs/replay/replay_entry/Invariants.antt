use Rattle.std.proofs.Common.{◌≡◌, length}
use Rattle.std.specs.Prelude.{replicate}
use Rattle.machine.specs.World.{run}
use Rattle.machine.specs.State.{state}
use Rattle.history.proofs.replay.replay_entry.Given as goal

abbrev pub invariant-locals : goal.invariant-locals
invariant-locals g l = record {
  reached : state l.machine ≡ run (state l.fn.machine) (replicate l.counter l.plain);
  harts : length (state l.machine).harts ≡ length (state l.fn.machine).harts;
}
