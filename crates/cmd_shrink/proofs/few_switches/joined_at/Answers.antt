use Rattle.std.proofs.Common.{◌<◌, length, Ok, ap, arith}
use Rattle.cmd_shrink.proofs.ExchangeLemmas.{apart_back}
use Rattle.cmd_shrink.proofs.RunLemmas.{only_next}
use Rattle.cmd_shrink.proofs.few_switches.joined_at.Goals as goal

pub fewer_at-requires-2-clause-apart : goal.fewer_at-requires-2-clause-apart
fewer_at-requires-2-clause-apart g c =
    let within = c.next_of-next.ensures.within in
    let some = c.if-next-choices.false in
    let there : c.next_of-next.result < length c.args.choices.now = omega (arith, within, some) in
    apart_back c.args.choices.now c.args.from c.args.to c.next_of-next.result c.run_end-end.result c.run_end-end.ensures
    (c.next_of-next.ensures.same there) c.next_of-next.ensures.others

pub returns-clause-none : goal.returns-clause-none
returns-clause-none g c = λ is.
    let within = c.next_of-next.ensures.within in
    let some = c.if-next-choices.false in
    let there : c.next_of-next.result < length c.args.choices.now = omega (arith, within, some) in
    only_next c.args.choices.now (g.F.Failing.fails c.args.test.now) c.args.from c.args.to c.next_of-next.result
    c.run_end-end.result c.next_of-next.ensures.behind c.next_of-next.ensures.others (c.next_of-next.ensures.same there)
    c.run_end-end.ensures (c.in_ok-joined.ensures.none (ap Ok c.in_default.is)) (c.fewer_at-2.ensures.none is)
