use Rattle.explore_sites.proofs.SiteLemmas.{machine_steps}
use Rattle.explore_sites.proofs.laws.steps_are_those_of_the_machine.Goals as goal

pub returns : goal.returns
returns c = machine_steps
