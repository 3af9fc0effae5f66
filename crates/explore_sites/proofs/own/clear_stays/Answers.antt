use Rattle.explore_sites.proofs.LoneLemmas.{stays_clear}
use Rattle.explore_sites.proofs.own.clear_stays.Goals as goal

pub returns : goal.returns
returns c = stays_clear
