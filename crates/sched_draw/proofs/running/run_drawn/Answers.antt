use Rattle.std.proofs.Common.{IfOk, subst, sym}
use Rattle.machine.specs.Machine.{world}
use Rattle.sched_run.specs.Chosen.{harts_of}
use Rattle.sched_draw.specs.Schedules.{RanOver}
use Rattle.sched_draw.proofs.running.run_drawn.Goals as goal

pub returns : goal.returns
returns g c =
    let w = world g.S.Store.memory c.args.machine.now in
    subst (λ choices. IfOk c.run_in_order.result (λ chosen. RanOver choices w
    (world g.S.Store.memory c.run_in_order.new.machine) (harts_of chosen)))
    (sym (c.draw_of_seed.ensures.same w c.args.harts c.args.steps)) c.run_in_order.ensures
