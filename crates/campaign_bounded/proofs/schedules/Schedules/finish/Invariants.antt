use Rattle.std.proofs.Common.{◌≡◌, ◌++◌}
use Rattle.campaign_bounded.specs.Walk.{schedules_left, spot_of, through}
use Rattle.campaign_bounded.proofs.schedules.Schedules.finish.Given as goal

-- what is left with the node is what was left
abbrev pub invariant-choices : goal.invariant-choices
invariant-choices g l =
    through (spot_of g.S.Store.memory l.node) ++ schedules_left g.S.Store.memory l.self
    ≡ through (spot_of g.S.Store.memory l.initial.node) ++ schedules_left g.S.Store.memory l.initial.self

abbrev pub decreases-choices : goal.decreases-choices
decreases-choices g l = l.node.choices
