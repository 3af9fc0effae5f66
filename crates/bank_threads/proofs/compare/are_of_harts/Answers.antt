use Rattle.bank_threads.proofs.ListLemmas.{below_next, below_all}
use Rattle.bank_threads.proofs.compare.are_of_harts.Goals as goal

pub logs-preserved : goal.logs-preserved
logs-preserved g c = below_next _ _ _ _ c.logs.invariant c.logs-test.true c.index-logs-h.is (c.is_of_hart.ensures c.if-not-is_of_hart.false)

pub returns : goal.returns
returns g c = λ e. (c.if-logs-inputs.false, below_all _ _ _ c.logs-test.false c.logs.invariant)
