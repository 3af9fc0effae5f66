use Rattle.explore_sites.proofs.LoneLemmas.{clear_alone}
use Rattle.explore_sites.proofs.own.alone_is_clear.Goals as goal

pub returns : goal.returns
returns c = clear_alone
