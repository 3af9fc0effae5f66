use Rattle.bank_threads.proofs.ListLemmas.{SameBelow}
use Rattle.bank_threads.proofs.compare.same_segments.Given as goal

abbrev pub invariant-segments : goal.invariant-segments
invariant-segments g l = SameBelow l.first l.second l.i
