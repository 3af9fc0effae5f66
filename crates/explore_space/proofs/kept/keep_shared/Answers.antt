use Rattle.std.proofs.Common.{subst}
use Rattle.std.specs.List.{Contains}
use Rattle.explore_space.proofs.KeptLemmas.{shareds_differ}
use Rattle.explore_space.proofs.kept.keep_shared.Goals as goal

pub returns-in_default-clause-once : goal.returns-in_default-clause-once
returns-in_default-clause-once g c = λ image canonical.
    shareds_differ image c.args.shareds.now.parts.items c.args.shared c.push_shared.new.shareds.parts.items c.args.shareds.now.hints _
    c.push_shared.ensures.pushed c.args.shareds.now.hashed
    (subst (λ row. Contains c.args.shareds.now.hints row → ⊥) c.hash_of_shared.ensures c.in_default.ensures.absent) canonical
