use Rattle.std.proofs.Common.{arith}
use Rattle.campaign_bounded.specs.Walk.{schedules_left}
use Rattle.campaign_bounded.proofs.SkipLemmas.{skipped_all}
use Rattle.campaign_bounded.proofs.schedules.Schedules.skip.Goals as goal

pub returns-in_default : goal.returns-in_default
returns-in_default g c =
    skipped_all g.S.Store.memory c.in_ok-_schedule.field-0 c.skipped._done (schedules_left g.S.Store.memory c.args.self.now)
    (schedules_left g.S.Store.memory c.skipped.self) (schedules_left g.S.Store.memory c.next.new.self) c.args.count c.in_default.is
    c.in_ok-_schedule.ensures c.skipped.invariant (omega (arith, c.skipped-test.true))
