use Rattle.std.proofs.Common.{◌≡◌, ◌-◌}
use Rattle.std.specs.List.{filter, range_with_len}
use Rattle.machine.specs.Machine.{world}
use Rattle.campaign_bounded.specs.Bounded.{may_take_over, others}
use Rattle.campaign_bounded.proofs.node.Node.first_other.Given as goal

-- no lower one may take over
abbrev pub invariant-harts : goal.invariant-harts
invariant-harts g l =
    others l.self.harts l.self.preemptions (world g.S.Store.memory l.self.machine) l.self.last
    ≡ filter (may_take_over l.self.preemptions (world g.S.Store.memory l.self.machine) l.self.last)
    (range_with_len l.hart (l.self.harts - l.hart))
