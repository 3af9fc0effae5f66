use Rattle.hart_local.proofs.StepLemmas.{walk_none}
use Rattle.thread_book.proofs.book.Book.segment.Goals as goal

pub invariant_of-result : goal.invariant_of-result
invariant_of-result g c = walk_none _ _
