use Rattle.std.proofs.Common.{◌∙◌, ap}
use Rattle.hart_reservations.specs.Reserve.{marks}
use Rattle.hart_step.specs.Hart.{HartValue, hart_of}
use Rattle.hart_step.specs.Effect.{site, site_of}
use Rattle.hart_step.proofs.WantingLemmas.{by_fault, step_taken, step_stores}
use Rattle.hart_step.proofs.step.running_step.Goals as goal

pub returns-in-Ok-clause-ok : goal.returns-in-Ok-clause-ok
returns-in-Ok-clause-ok g c =
    step_taken _ c.args.id c.args.refuse (site_of c.args.hart.now (g.S.Store.memory c.args.store.now) c.args.reserve.now) _ _
    c.requires.runs c.in-Ok.ensures c.execute.ensures.ok

pub returns-in-Ok-clause-stores : goal.returns-in-Ok-clause-stores
returns-in-Ok-clause-stores g c =
    step_stores _ c.args.id c.args.refuse (site_of c.args.hart.now (g.S.Store.memory c.args.store.now) c.args.reserve.now) _
    c.requires.runs c.in-Ok.ensures c.execute.ensures.stores

pub returns-in-Err-clause-ok : goal.returns-in-Err-clause-ok
returns-in-Err-clause-ok g c =
    ap (λ (v : HartValue). site v (g.S.Store.memory c.args.store.now) (marks c.args.reserve.now)) (rw c.fetch_cause.ensures at c.fault.ensures)
    ∙ by_fault c.args.id c.args.refuse (site_of c.args.hart.now (g.S.Store.memory c.args.store.now) c.args.reserve.now) _
    c.requires.runs c.in-Err.ensures
