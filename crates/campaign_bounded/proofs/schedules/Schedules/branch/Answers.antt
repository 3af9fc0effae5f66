use Rattle.std.proofs.Common.{◌+◌, ◌-◌}
use Rattle.campaign_bounded.specs.Walk.{schedules_left, spot_of}
use Rattle.campaign_bounded.proofs.WalkLemmas.{branched_first, branched_itself, takers}
use Rattle.campaign_bounded.proofs.schedules.Schedules.branch.Goals as goal

pub returns-in_ok-take-in-Some : goal.returns-in_ok-take-in-Some
returns-in_ok-take-in-Some g c =
    let p = spot_of g.S.Store.memory c.args.node.now in
    branched_first p (spot_of g.S.Store.memory c.take.new.self) c.in-Some.first
    (takers p (c.in-Some.first + 1) (c.args.node.now.harts - (c.in-Some.first + 1)))
    (schedules_left g.S.Store.memory c.args.self.now) (schedules_left g.S.Store.memory c.keep_itself.new.self)
    (schedules_left g.S.Store.memory c.keep_others.new.self) c.requires c.in-Some.ensures.some.1
    c.in_ok-keep_itself-in-Some.ensures c.in_ok-keep_others-in-Some.ensures c.in_ok-take-in-Some.ensures

pub returns-in_ok-take-in-Some-itself : goal.returns-in_ok-take-in-Some-itself
returns-in_ok-take-in-Some-itself g c =
    branched_itself (spot_of g.S.Store.memory c.args.node.now) (spot_of g.S.Store.memory c.take-in-Some-itself.new.self)
    c.in-Some-itself.last c.itself.result (schedules_left g.S.Store.memory c.args.self.now) c.requires
    c.in-None.ensures.none c.itself.ensures c.in-Some-itself.is c.in_ok-take-in-Some-itself.ensures
