use Rattle.std.proofs.Common.{sym, arith}
use Rattle.sched_run.proofs.ReadLemmas.{none_read, item_read, item_spoils}
use Rattle.sched_run.proofs.checking.first_fault.Goals as goal

pub items-init : goal.items-init
items-init c = record { within = omega arith; so_far = none_read c.args.harts c.args.text.now }

pub items-preserved : goal.items-preserved
items-preserved c =
    let first = c.in-Some.ensures.some in
    record {
      within = first.within;
      so_far = item_read c.args.harts c.items.from c.in-Some.begin c.in-Some.end c.args.text.now c.in-Ok.named
          first (sym c.in-Ok.ensures) c.items.invariant.so_far;
    }

pub returns-in-Err-clause-fault : goal.returns-in-Err-clause-fault
returns-in-Err-clause-fault c =
    item_spoils c.args.harts c.items.from c.in-Some.begin c.in-Some.end c.args.text.now c.in-Err.fault
    c.in-Some.ensures.some (sym c.in-Err.ensures) c.items.invariant.so_far
