use Rattle.std.proofs.Common.{sym, arith, rules}
use Rattle.cmd_trace.proofs.CountLemmas.{none_counted, item_counted, all_counted}
use Rattle.cmd_trace.proofs.counting.count_choices.Goals as goal

pub items-init : goal.items-init
items-init c = record { within = omega arith; so_far = none_counted c.args.harts c.args.text.now }

pub items-preserved : goal.items-preserved
items-preserved c =
    let first = c.in-Some.ensures.some in
    record {
      within = first.within;
      so_far = item_counted c.args.harts c.items.from c.in-Some.begin c.in-Some.end c.items.count _ c.args.text.now c.in-Ok.named
          first (sym c.in-Ok.ensures) (search rules) c.items.invariant.so_far;
    }

pub returns-clause-counted : goal.returns-clause-counted
returns-clause-counted c =
    all_counted c.args.harts c.items.from c.items.count c.args.text.now c.in_default.ensures.none c.items.invariant.so_far
