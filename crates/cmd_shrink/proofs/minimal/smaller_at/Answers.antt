use Rattle.std.proofs.Common.{Ok, ap}
use Rattle.cmd_shrink.proofs.NeededLemmas.{choice_goes, mark_goes, unmarked_needed}
use Rattle.cmd_shrink.proofs.minimal.smaller_at.Goals as goal

pub returns-then-branch-clause-found : goal.returns-then-branch-clause-found
returns-then-branch-clause-found g c =
    choice_goes (g.F.Failing.fails c.args.test.now) c.args.at c.args.choices.now c.deref.result.now c.in_ok-shorter.shorter.items
    c.requires.there c.in_ok-shorter.ensures c.deref.ensures.value (c.in_ok-is_failing.ensures.failed (ap Ok c.if-branch.true))

pub returns-then-not-choices-at-clause-none : goal.returns-then-not-choices-at-clause-none
returns-then-not-choices-at-clause-none g c = λ _.
    unmarked_needed (g.F.Failing.fails c.args.test.now) c.args.at c.args.choices.now c.deref.result.now _ c.in_ok-shorter.shorter.items
    c.if-not-choices-at.true c.in_ok-shorter.ensures c.deref.ensures.value (c.in_ok-is_failing.ensures.passed (ap Ok c.if-branch.false))

pub returns-then-branch-2-clause-found : goal.returns-then-branch-2-clause-found
returns-then-branch-2-clause-found g c =
    mark_goes (g.F.Failing.fails c.args.test.now) c.args.at c.args.choices.now c.deref-2.result.now _ c.in_ok-unmarked.unmarked.items
    c.requires.there c.if-not-choices-at.false c.in_ok-unmarked.ensures c.deref-2.ensures.value
    (c.in_ok-is_failing-2.ensures.failed (ap Ok c.if-branch-2.true))
