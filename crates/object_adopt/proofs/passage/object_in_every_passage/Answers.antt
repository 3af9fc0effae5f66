use Rattle.object_adopt.proofs.Lone.{passage_bounded, passage_kept}
use Rattle.object_adopt.proofs.passage.object_in_every_passage.Goals as goal

pub returns-clause-kept : goal.returns-clause-kept
returns-clause-kept c = passage_kept

pub returns-clause-bounded : goal.returns-clause-bounded
returns-clause-bounded c = passage_bounded
