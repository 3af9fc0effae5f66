use Rattle.hart_local.proofs.StepLemmas.{walk_none}
use Rattle.thread_book.proofs.segment.Segment.restart.Goals as goal

pub invariant_of-self : goal.invariant_of-self
invariant_of-self g c = walk_none _ _
