use Rattle.object_consensus.proofs.AmoRace.{swap_agrees_in, swap_bounded_in, swap_ends_in}
use Rattle.object_consensus.proofs.amo.swap_in_every_run.Goals as goal

pub returns-clause-agreed : goal.returns-clause-agreed
returns-clause-agreed c = swap_agrees_in

pub returns-clause-ended : goal.returns-clause-ended
returns-clause-ended c = swap_ends_in

pub returns-clause-bounded : goal.returns-clause-bounded
returns-clause-bounded c = swap_bounded_in
