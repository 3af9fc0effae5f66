use Rattle.object_consensus.proofs.LrscRace.{agrees_in, bounded_in, ends_in}
use Rattle.object_consensus.proofs.lrsc.lrsc_in_every_run.Goals as goal

pub returns-clause-agreed : goal.returns-clause-agreed
returns-clause-agreed c = agrees_in

pub returns-clause-ended : goal.returns-clause-ended
returns-clause-ended c = ends_in

pub returns-clause-bounded : goal.returns-clause-bounded
returns-clause-bounded c = bounded_in
