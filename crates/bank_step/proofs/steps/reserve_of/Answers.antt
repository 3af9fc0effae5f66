use Rattle.bank_step.proofs.StepLemmas.{mark_none, mark_set, mark_unset}
use Rattle.hart_reservations.specs.Reserve.{marks}
use Rattle.bank_step.proofs.steps.reserve_of.Goals as goal

pub returns-in-None : goal.returns-in-None
returns-in-None c = mark_none c.args.succeeds c.args.touched (marks c.new-reserve.result) c.new-reserve.ensures c.in-None.is

pub returns-then-succeeds : goal.returns-then-succeeds
returns-then-succeeds c = mark_set c.args.succeeds c.args.touched c.in-Some.word (marks c.new-reserve.result) (marks c.set.new.self) c.if-succeeds.true c.in-Some.is c.set.ensures

pub returns-else-succeeds : goal.returns-else-succeeds
returns-else-succeeds c = mark_unset c.args.succeeds c.args.touched (marks c.new-reserve.result) c.if-succeeds.false c.new-reserve.ensures
