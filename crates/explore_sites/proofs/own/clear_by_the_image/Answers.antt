use Rattle.explore_sites.proofs.StayLemmas.{clear_kept}
use Rattle.explore_sites.proofs.own.clear_by_the_image.Goals as goal

pub returns : goal.returns
returns c = clear_kept
