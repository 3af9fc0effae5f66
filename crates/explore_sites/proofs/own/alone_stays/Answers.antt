use Rattle.explore_sites.proofs.LoneLemmas.{stays_alone}
use Rattle.explore_sites.proofs.own.alone_stays.Goals as goal

pub returns : goal.returns
returns c = stays_alone
