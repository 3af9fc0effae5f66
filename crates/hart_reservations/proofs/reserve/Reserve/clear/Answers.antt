use Rattle.hart_reservations.proofs.HoldersLemmas.{covers-clear}
use Rattle.hart_reservations.proofs.reserve.Reserve.clear.Goals as goal

pub invariant_of-self : goal.invariant_of-self
invariant_of-self c = record {
  covered = rw (c.without-self.ensures) (covers-clear c.args.self.now.words c.args.self.now.holders c.args.hart c.args.self.now.covered);
}
