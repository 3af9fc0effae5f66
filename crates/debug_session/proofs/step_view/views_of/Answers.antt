use Rattle.std.proofs.Common.{rules, ◌∙◌}
use Rattle.debug_session.specs.Paged.{paged_world}
use Rattle.debug_session.proofs.ViewLemmas.{views_more, views_end}
use Rattle.debug_session.proofs.step_view.views_of.Goals as goal

pub steps-preserved : goal.steps-preserved
steps-preserved g c = record {
  counted = (search rules);
  harts = c.tick.ensures.harts ∙ c.steps.invariant.harts;
  left = views_more c.steps.views.items c.push.new.self.items _ c.view_of.result (paged_world c.steps.machine) (paged_world c.tick.new.machine) _ c.args.choices.now c.args.first c.steps.i
      c.steps-test.true (search rules) c.view_of.ensures c.in_ok-tick.ensures.ok c.in_ok-push.ensures.items c.steps.invariant.left;
}

pub returns : goal.returns
returns g c = views_end c.steps.views.items _ (paged_world c.steps.machine) c.args.choices.now _ c.steps.i (search rules) c.steps.invariant.left
