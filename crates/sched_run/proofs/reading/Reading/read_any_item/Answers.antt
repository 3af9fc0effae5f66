use Rattle.std.proofs.Common.{sym}
use Rattle.sched_run.proofs.LeftLemmas.{first_read, nothing_left, fault_left}
use Rattle.sched_run.proofs.reading.Reading.read_any_item.Goals as goal

pub returns-in_default-clause-none : goal.returns-in_default-clause-none
returns-in_default-clause-none c =
    nothing_left c.args.harts c.args.text.now c.args.self.now c.in_default.ensures.none

pub returns-in-Ok-clause-some : goal.returns-in-Ok-clause-some
returns-in-Ok-clause-some c =
    first_read c.args.harts c.args.self.now.from c.in-Some.begin c.in-Some.end c.behind_blank-self.result c.args.text.now _
    c.in-Some.ensures.some (sym c.in-Ok.ensures) c.behind_blank-self.ensures.same

pub returns-in-Err-clause-none : goal.returns-in-Err-clause-none
returns-in-Err-clause-none c =
    fault_left c.args.harts c.in-Some.begin c.in-Some.end c.args.text.now c.args.self.now c.in-Err.fault
    c.in-Some.ensures.some (sym c.in-Err.ensures)
