use Rattle.std.proofs.Common.{arith}
use Rattle.machine.specs.Machine.{world}
use Rattle.campaign_bounded.specs.Walk.{schedules_left}
use Rattle.cmd_bounded.specs.Told.{told_value}
use Rattle.cmd_bounded.proofs.RangeLemmas.{one_told}
use Rattle.cmd_bounded.proofs.ranged.tell_range.Goals as goal

pub schedules-preserved : goal.schedules-preserved
schedules-preserved g c =
    one_told c.args.campaign (world g.S.Store.memory c.args.start.now) c.args.inputs.now (schedules_left g.S.Store.memory c.args.walk.now)
    (schedules_left g.S.Store.memory c.schedules.walk) (schedules_left g.S.Store.memory c.next_end.new.walk)
    (told_value c.args.told.now) (told_value c.schedules.told) (told_value c.add.new.self) c.schedules.done
    c.schedules.invariant c.in_ok-end.field-0 c.in-Some.end c.in-Some.is c.in_ok-end.ensures
    (omega (arith, c.schedules-test.true)) c.in_ok-add.ensures
