use Rattle.std.proofs.Common.{subst}
use Rattle.std.specs.List.{Contains}
use Rattle.explore_space.proofs.KeptLemmas.{harts_differ}
use Rattle.explore_space.proofs.kept.keep_hart.Goals as goal

pub returns-in_default-clause-once : goal.returns-in_default-clause-once
returns-in_default-clause-once g c =
    harts_differ c.args.harts.now.parts.items c.push_hart.new.harts.parts.items c.args.harts.now.hints c.args.hart _ c.push_hart.ensures.pushed
    c.args.harts.now.hashed (subst (λ row. Contains c.args.harts.now.hints row → ⊥) c.hash_of_hart.ensures c.in_default.ensures.absent)
