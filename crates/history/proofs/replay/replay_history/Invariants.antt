use Rattle.std.proofs.Common.{◌≡◌, take, length}
use Rattle.machine.specs.World.{run}
use Rattle.machine.specs.State.{state}
use Rattle.history.specs.History.{expanded}
use Rattle.history.proofs.replay.replay_history.Given as goal

abbrev pub invariant-entries : goal.invariant-entries
invariant-entries g l = record {
  reached : state l.machine ≡ run (state l.fn.machine) (expanded (take l.entry-index l.history));
  harts : length (state l.machine).harts ≡ length (state l.fn.machine).harts;
}
