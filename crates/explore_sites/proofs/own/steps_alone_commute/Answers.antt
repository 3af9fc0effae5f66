use Rattle.explore_sites.proofs.OrderLemmas.{alone_commutes}
use Rattle.explore_sites.proofs.own.steps_alone_commute.Goals as goal

pub returns : goal.returns
returns c = alone_commutes
