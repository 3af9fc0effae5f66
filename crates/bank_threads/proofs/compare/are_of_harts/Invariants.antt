use Rattle.bank_threads.specs.Banked.{IsHartOfRun}
use Rattle.bank_threads.proofs.ListLemmas.{Below}
use Rattle.bank_threads.proofs.compare.are_of_harts.Given as goal

abbrev pub invariant-logs : goal.invariant-logs
invariant-logs g l = Below (IsHartOfRun l.image l.inputs l.budget l.plan.keys) l.logs l.h
