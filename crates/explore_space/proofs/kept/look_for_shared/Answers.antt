use Rattle.std.proofs.Common.{subst}
use Rattle.std.specs.List.{Contains}
use Rattle.explore_space.specs.Hashes.{hash_of_shared}
use Rattle.explore_space.proofs.KeptLemmas.{hashed_still}
use Rattle.explore_space.proofs.kept.look_for_shared.Goals as goal

pub invariant_of-shareds : goal.invariant_of-shareds
invariant_of-shareds g c = record {
  hashed = hashed_still hash_of_shared _ _ _ c.put.ensures.others c.args.shareds.now.hashed;
}

pub invariant_of-shareds-in-Break-branch-2 : goal.invariant_of-shareds-in-Break-branch-2
invariant_of-shareds-in-Break-branch-2 g c = record {
  hashed = c.add_shared.ensures.hashed c.put.new.self
      (subst (Contains c.put.new.self) c.hash_of_shared-hash.ensures c.in_ok-put.ensures.put)
      (hashed_still hash_of_shared _ _ _ c.put.ensures.others c.args.shareds.now.hashed);
}

pub invariant_of-shareds-2 : goal.invariant_of-shareds-2
invariant_of-shareds-2 g c = record {
  hashed = hashed_still hash_of_shared _ _ _ c.put-2.ensures.others
      (c.add_shared.ensures.hashed c.put.new.self
      (subst (Contains c.put.new.self) c.hash_of_shared-hash.ensures c.in_ok-put.ensures.put)
      (hashed_still hash_of_shared _ _ _ c.put.ensures.others c.args.shareds.now.hashed));
}
