use Rattle.std.proofs.Common.{arith, sym, ◌∙◌}
use Rattle.machine.specs.Machine.{world}
use Rattle.campaign_bounded.specs.Walk.{schedules_left}
use Rattle.cmd_bounded.proofs.UntilLemmas.{goes_on_good, none_is_left, stops_bad, whole_range}
use Rattle.cmd_bounded.proofs.until.find_failure.Goals as goal

pub returns-in_default : goal.returns-in_default
returns-in_default g c =
    none_is_left c.args.campaign (world g.S.Store.memory c.args.start.now) c.args.inputs.now (schedules_left g.S.Store.memory c.args.walk.now)
    (schedules_left g.S.Store.memory c.schedules.walk) c.schedules.done c.schedules.invariant (schedules_left g.S.Store.memory c.next_end.new.walk)
    c.in_ok-end.field-0 c.in_default.is c.in_ok-end.ensures

pub returns-then-fails : goal.returns-then-fails
returns-then-fails g c =
    stops_bad c.args.campaign (world g.S.Store.memory c.args.start.now) c.args.inputs.now (schedules_left g.S.Store.memory c.args.walk.now)
    (schedules_left g.S.Store.memory c.schedules.walk) (schedules_left g.S.Store.memory c.next_end.new.walk) c.schedules.done c.schedules.invariant
    c.in_ok-end.field-0 c.in-Some.end c.in-Some.is c.in_ok-end.ensures (omega (arith, c.schedules-test.true))
    (sym c.fails.ensures ∙ c.if-fails.true)

pub schedules-preserved : goal.schedules-preserved
schedules-preserved g c =
    goes_on_good c.args.campaign (world g.S.Store.memory c.args.start.now) c.args.inputs.now (schedules_left g.S.Store.memory c.args.walk.now)
    (schedules_left g.S.Store.memory c.schedules.walk) (schedules_left g.S.Store.memory c.next_end.new.walk) c.schedules.done c.schedules.invariant
    c.in_ok-end.field-0 c.in-Some.end c.in-Some.is c.in_ok-end.ensures (omega (arith, c.schedules-test.true))
    (sym c.fails.ensures ∙ c.if-fails.false)

pub returns : goal.returns
returns g c =
    whole_range c.args.campaign (world g.S.Store.memory c.args.start.now) c.args.inputs.now (schedules_left g.S.Store.memory c.args.walk.now)
    (schedules_left g.S.Store.memory c.schedules.walk) c.schedules.done c.schedules.invariant
    (omega (arith, c.schedules-test.false, c.schedules.auto.done-end))
