use Rattle.std.proofs.Common.{◌≡◌, ◌-◌, ◌++◌}
use Rattle.campaign_bounded.specs.Walk.{schedules_left, spot_of}
use Rattle.campaign_bounded.proofs.WalkLemmas.{after_each, takers}
use Rattle.campaign_bounded.proofs.schedules.Schedules.keep_others.Given as goal

-- the places after the last harts are kept
abbrev pub invariant-harts : goal.invariant-harts
invariant-harts g l =
    schedules_left g.S.Store.memory l.self
    ≡ after_each (spot_of g.S.Store.memory l.node) (takers (spot_of g.S.Store.memory l.node) (l.node.harts - l.back) l.back)
    ++ schedules_left g.S.Store.memory l.initial.self
