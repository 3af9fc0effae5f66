use Rattle.std.proofs.Common.{◌≡◌, ◌+◌, take, length}
use Rattle.machine.specs.World.{run}
use Rattle.debug_session.specs.Paged.{paged_world}
use Rattle.debug_session.proofs.stepping.walk.Given as goal

abbrev pub invariant-choices : goal.invariant-choices
invariant-choices g l = record {
  reached : paged_world l.machine ≡ run (paged_world l.fn.machine) (take l.choice-index l.choices);
  counted : l.cost ≡ l.fn.cost + l.choice-index;
  harts : length (paged_world l.machine).harts ≡ length (paged_world l.fn.machine).harts;
}
