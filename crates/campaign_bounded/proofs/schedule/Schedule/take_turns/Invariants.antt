use Rattle.std.proofs.Common.{◌≡◌}
use Rattle.campaign_bounded.specs.Fair.{led_by_turns}
use Rattle.campaign_bounded.specs.Walk.{led_of}
use Rattle.campaign_bounded.proofs.schedule.Schedule.take_turns.Given as goal

-- the turns so far are taken
abbrev pub invariant-turns : goal.invariant-turns
invariant-turns g l = led_of g.S.Store.memory l.self ≡ led_by_turns l.harts l.turn (led_of g.S.Store.memory l.initial.self)
