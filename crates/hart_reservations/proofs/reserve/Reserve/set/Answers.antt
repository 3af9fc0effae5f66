use Rattle.hart_reservations.proofs.HoldersLemmas.{covers-set}
use Rattle.hart_reservations.proofs.reserve.Reserve.set.Goals as goal

pub invariant_of-self : goal.invariant_of-self
invariant_of-self c = record {
  covered = rw (c.with-self.ensures) (covers-set c.args.self.now.words c.args.self.now.holders c.args.hart c.args.word c.args.self.now.covered);
}
