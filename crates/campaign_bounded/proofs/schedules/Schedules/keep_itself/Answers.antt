use Rattle.std.proofs.Common.{ap, sym, ◌∙◌}
use Rattle.machine.specs.Machine.{world}
use Rattle.campaign_bounded.specs.Bounded.{itself}
use Rattle.campaign_bounded.specs.Spots.{after_step, option_list}
use Rattle.campaign_bounded.specs.Walk.{schedules_left, spot_of, through_nodes}
use Rattle.campaign_bounded.proofs.WalkLemmas.{kept_node, kept_one}
use Rattle.campaign_bounded.proofs.schedules.Schedules.keep_itself.Goals as goal

pub returns-in_ok-push : goal.returns-in_ok-push
returns-in_ok-push g c =
    let p = spot_of g.S.Store.memory c.args.node.now in
    kept_one p c.in-Some.last (itself p.world p.last) (schedules_left g.S.Store.memory c.args.self.now)
    (through_nodes g.S.Store.memory c.push.new.self.items)
    (sym c.itself.ensures ∙ ap option_list c.in-Some.is)
    (kept_node g.S.Store.memory c.args.self.now.nodes.items c.push.new.self.items c.in_ok-after.after (after_step p c.in-Some.last)
    c.in_ok-push.ensures.items c.in_ok-after.ensures)
