use Rattle.object_consensus.proofs.AmoRace.{add_agrees_in, add_bounded_in, add_ends_in}
use Rattle.object_consensus.proofs.amo.add_in_every_run.Goals as goal

pub returns-clause-agreed : goal.returns-clause-agreed
returns-clause-agreed c = add_agrees_in

pub returns-clause-ended : goal.returns-clause-ended
returns-clause-ended c = add_ends_in

pub returns-clause-bounded : goal.returns-clause-bounded
returns-clause-bounded c = add_bounded_in
