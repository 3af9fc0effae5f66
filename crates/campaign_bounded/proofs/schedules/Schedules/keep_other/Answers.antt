use Rattle.std.proofs.Common.{ap, sym, ◌∙◌}
use Rattle.campaign_bounded.specs.Spots.{after_step, takes_over}
use Rattle.campaign_bounded.specs.Walk.{schedules_left, spot_of, through_nodes}
use Rattle.campaign_bounded.proofs.WalkLemmas.{kept_node, kept_one, takes_one}
use Rattle.campaign_bounded.proofs.schedules.Schedules.keep_other.Goals as goal

pub returns-in_ok-push : goal.returns-in_ok-push
returns-in_ok-push g c =
    let p = spot_of g.S.Store.memory c.args.node.now in
    kept_one p c.args.hart (takes_over p c.args.hart) (schedules_left g.S.Store.memory c.args.self.now)
    (through_nodes g.S.Store.memory c.push.new.self.items)
    (takes_one p c.args.hart (sym c.may_take_over.ensures ∙ c.if-may_take_over.true))
    (kept_node g.S.Store.memory c.args.self.now.nodes.items c.push.new.self.items c.in_ok-after.after (after_step p c.args.hart)
    c.in_ok-push.ensures.items c.in_ok-after.ensures)
