use Rattle.explore_sites.proofs.StayLemmas.{alone_kept}
use Rattle.explore_sites.proofs.own.alone_by_the_image.Goals as goal

pub returns : goal.returns
returns c = alone_kept
