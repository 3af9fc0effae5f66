use Rattle.cmd_shrink.specs.Minimal.{Lessens}
use Rattle.cmd_shrink.proofs.EachLemmas.{each_step}
use Rattle.cmd_shrink.proofs.minimal.make_minimal.Goals as goal

pub removals-preserved : goal.removals-preserved
removals-preserved g c =
    let found : Lessens (g.F.Failing.fails c.args.test.now) c.in-Some.smaller.items c.deref.result.now
    = rw c.in-Some.is at c.in_ok-smaller.ensures.found in
    record {
      less = each_step c.in_ok-choices-2.choices.items c.in-Some.smaller.items c.deref.result.now c.removals.choices.items
          c.args.given.items c.deref.ensures.value found.less c.in_ok-choices-2.ensures.less c.removals.invariant.less;
      fails = c.in_ok-choices-2.ensures.fails;
      few = c.in_ok-choices-2.ensures.few;
    }
