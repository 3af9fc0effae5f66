use Rattle.std.proofs.Common.{subst}
use Rattle.std.specs.List.{Contains}
use Rattle.hart_step.specs.Hart.{hart_of}
use Rattle.hart_step.specs.declared.hart.Hart.{Hart}
use Rattle.explore_space.specs.Hashes.{hash_of_hart}
use Rattle.explore_space.proofs.KeptLemmas.{hashed_still}
use Rattle.explore_space.proofs.kept.look_for_hart.Goals as goal

pub invariant_of-harts : goal.invariant_of-harts
invariant_of-harts g c = record {
  hashed = hashed_still (λ (h : Hart). hash_of_hart (hart_of h)) _ _ _ c.put.ensures.others c.args.harts.now.hashed;
}

pub invariant_of-harts-in-Break-branch-2 : goal.invariant_of-harts-in-Break-branch-2
invariant_of-harts-in-Break-branch-2 g c = record {
  hashed = c.add_hart.ensures.hashed c.put.new.self
      (subst (Contains c.put.new.self) c.hash_of_hart-hash.ensures c.in_ok-put.ensures.put)
      (hashed_still (λ (h : Hart). hash_of_hart (hart_of h)) _ _ _ c.put.ensures.others c.args.harts.now.hashed);
}

pub invariant_of-harts-2 : goal.invariant_of-harts-2
invariant_of-harts-2 g c = record {
  hashed = hashed_still (λ (h : Hart). hash_of_hart (hart_of h)) _ _ _ c.put-2.ensures.others
      (c.add_hart.ensures.hashed c.put.new.self
      (subst (Contains c.put.new.self) c.hash_of_hart-hash.ensures c.in_ok-put.ensures.put)
      (hashed_still (λ (h : Hart). hash_of_hart (hart_of h)) _ _ _ c.put.ensures.others c.args.harts.now.hashed));
}
