use Rattle.std.proofs.Common.{rules}
use Rattle.explore_space.proofs.SameLemmas.{same_registers}
use Rattle.explore_space.proofs.parts.has_same_words.Goals as goal

pub returns : goal.returns
returns c = same_registers c.eq.result c.args.ones.now c.args.others.now c.requires (search rules)
