use Rattle.explore_sites.proofs.CanonLemmas.{cells_tell}
use Rattle.explore_sites.proofs.laws.canonical_cells_tell.Goals as goal

pub returns : goal.returns
returns c = cells_tell
