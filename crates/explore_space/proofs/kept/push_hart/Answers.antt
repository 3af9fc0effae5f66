use Rattle.std.proofs.Common.{subst}
use Rattle.std.specs.List.{Contains}
use Rattle.hart_step.specs.Hart.{hart_of}
use Rattle.hart_step.specs.declared.hart.Hart.{Hart}
use Rattle.explore_space.specs.Hashes.{hash_of_hart}
use Rattle.explore_space.proofs.KeptLemmas.{hashed_pushed, hashed_still}
use Rattle.explore_space.proofs.kept.push_hart.Goals as goal

pub invariant_of-harts : goal.invariant_of-harts
invariant_of-harts g c = record {
  hashed = hashed_still (λ (h : Hart). hash_of_hart (hart_of h)) _ _ _ c.put.ensures.others c.args.harts.now.hashed;
}

pub invariant_of-harts-2 : goal.invariant_of-harts-2
invariant_of-harts-2 g c = record {
  hashed = hashed_pushed (λ (h : Hart). hash_of_hart (hart_of h)) _ c.args.harts.now.parts.items _ c.args.hart _ c.push.ensures.items
      (subst (Contains c.put.new.self) c.hash_of_hart.ensures c.in_ok-put.ensures.put)
      (hashed_still (λ (h : Hart). hash_of_hart (hart_of h)) _ _ _ c.put.ensures.others c.args.harts.now.hashed);
}
