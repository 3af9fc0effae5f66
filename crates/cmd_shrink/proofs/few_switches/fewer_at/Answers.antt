use Rattle.std.proofs.Common.{◌<◌, Ok, ap, arith}
use Rattle.cmd_shrink.specs.Switches.{switches}
use Rattle.cmd_shrink.proofs.ExchangeLemmas.{settles}
use Rattle.cmd_shrink.proofs.few_switches.fewer_at.Goals as goal

pub returns-then-branch-clause-found : goal.returns-then-branch-clause-found
returns-then-branch-clause-found g c =
    let new = c.switches.ensures in
    let old = c.switches-2.ensures in
    let less = c.if-switches.false in
    let fewer : switches c.deref.result.now < switches c.args.choices.now = omega (arith, new, old, less) in
    settles c.args.choices.now (g.F.Failing.fails c.args.test.now) c.args.from c.args.middle c.args.to c.in_ok-list.list.items
    c.deref.result.now c.deref-2.result.now c.requires.one c.requires.other c.requires.apart c.in_ok-list.ensures c.deref.ensures.value
    c.deref-2.ensures.value fewer (c.in_ok-is_failing.ensures.failed (ap Ok c.if-branch.true))
