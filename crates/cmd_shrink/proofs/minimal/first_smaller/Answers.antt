use Rattle.std.proofs.Common.{Ok, ap}
use Rattle.cmd_shrink.proofs.NeededLemmas.{needed_more}
use Rattle.cmd_shrink.proofs.minimal.first_smaller.Goals as goal

pub choices-preserved : goal.choices-preserved
choices-preserved g c =
    needed_more (g.F.Failing.fails c.args.test.now) c.choices.at c.args.choices.now c.choices.invariant
    (c.in_ok-smaller.ensures.none (ap Ok c.in_default.is))
