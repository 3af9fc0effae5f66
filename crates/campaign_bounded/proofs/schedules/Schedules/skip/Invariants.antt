use Rattle.std.proofs.Common.{◌≡◌, drop}
use Rattle.campaign_bounded.specs.Walk.{schedules_left}
use Rattle.campaign_bounded.proofs.schedules.Schedules.skip.Given as goal

-- so many are left out
abbrev pub invariant-skipped : goal.invariant-skipped
invariant-skipped g l =
    schedules_left g.S.Store.memory l.self ≡ drop l._done (schedules_left g.S.Store.memory l.initial.self)
