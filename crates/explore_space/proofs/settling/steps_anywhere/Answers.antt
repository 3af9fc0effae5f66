use Rattle.mem_store.specs.Image.{segments_memory}
use Rattle.explore_space.proofs.settling.steps_anywhere.Goals as goal
use Rattle.explore_space.proofs.RestLemmas.{walked_is_rested}
use Rattle.explore_space.specs.Resting.{at_once}

pub returns-clause-hart : goal.returns-clause-hart
returns-clause-hart g c =
    (walked_is_rested (segments_memory c.args.code.now) at_once c.local_steps.result _ _ c.local_steps.ensures.walked
    c.local_steps.ensures.limit c.local_steps.ensures.stops).0

pub returns-clause-steps : goal.returns-clause-steps
returns-clause-steps g c =
    (walked_is_rested (segments_memory c.args.code.now) at_once c.local_steps.result _ _ c.local_steps.ensures.walked
    c.local_steps.ensures.limit c.local_steps.ensures.stops).1

pub returns-clause-few : goal.returns-clause-few
returns-clause-few g c = c.local_steps.ensures.limit
