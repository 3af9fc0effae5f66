use Rattle.std.proofs.Common.{◌≡◌, ◌+◌, ◌*◌, take, length, vec_len}
use Rattle.machine.specs.World.{run}
use Rattle.debug_session.specs.Paged.{paged_world}
use Rattle.debug_session.specs.Kept.{AreKept}
use Rattle.debug_session.proofs.checkpoints.checkpoints_of.Given as goal

abbrev pub invariant-pieces : goal.invariant-pieces
invariant-pieces g l = record {
  reached : paged_world l.machine ≡ run (paged_world l.first) (take (l.i * 256) l.choices);
  kept : AreKept (paged_world l.first) l.choices l.kept.items;
  len : vec_len l.kept ≡ l.i + 1;
  harts : length (paged_world l.machine).harts ≡ length (paged_world l.first).harts;
}
