use Rattle.std.proofs.Common.{arith}
use Rattle.campaign_bounded.specs.Walk.{schedules_left, spot_of}
use Rattle.campaign_bounded.proofs.WalkLemmas.{kept_next}
use Rattle.campaign_bounded.proofs.schedules.Schedules.keep_others.Goals as goal

pub harts-preserved : goal.harts-preserved
harts-preserved g c =
    kept_next (spot_of g.S.Store.memory c.args.node.now) c.args.node.now.harts c.harts.back
    (schedules_left g.S.Store.memory c.keep_other.new.self) (schedules_left g.S.Store.memory c.harts.self)
    (schedules_left g.S.Store.memory c.args.self.now) (omega (arith, c.harts-test.true, c.requires.there))
    c.in_ok-keep_other.ensures c.harts.invariant
