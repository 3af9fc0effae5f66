use Rattle.explore_space.proofs.StandLemmas.{within_passes}
use Rattle.explore_space.proofs.laws.harts_in_a_section_are_seen.Goals as goal

pub returns : goal.returns
returns c = within_passes
