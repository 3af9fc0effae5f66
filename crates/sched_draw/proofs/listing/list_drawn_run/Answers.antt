use Rattle.std.proofs.Common.{◌≡◌, IfOk, subst, sym}
use Rattle.machine.specs.Machine.{world}
use Rattle.sched_draw.proofs.listing.list_drawn_run.Goals as goal

pub returns : goal.returns
returns g c =
    let w = world g.S.Store.memory c.args.machine.now in
    subst (λ choices. IfOk c.list_ordered_run.result (λ listed. listed.items ≡ choices))
    (sym (c.draw_of_seed.ensures.same w c.args.harts c.args.steps)) c.list_ordered_run.ensures
