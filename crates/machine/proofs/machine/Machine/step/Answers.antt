use Rattle.std.proofs.Common.{◌<◌, length}
use Rattle.std.proofs.lemmas.List.{length-map}
use Rattle.hart_reservations.specs.Reserve.{marks}
use Rattle.machine.proofs.StepLemmas.{step-placed, step-stores, world-unchanged, on-ok, on-err}
use Rattle.machine.proofs.machine.Machine.step.Goals as goal

pub returns-clause-ok : goal.returns-clause-ok
returns-clause-ok g c =
    let inside : c.args.choice.hart < length c.args.self.now.harts.items = rw length-map at c.requires in
    on-ok c.step_hart.result _ _
    (step-placed c.args.self.now.harts.items c.args.choice c.index_mut.result.now c.step_hart.new.hart
    (g.S.Store.memory c.args.self.now.store) (g.S.Store.memory c.step_hart.new.store) (marks c.args.self.now.reserve)
    (marks c.step_hart.new.reserve) inside c.index_mut.ensures.value) c.step_hart.ensures.ok

pub returns-clause-err : goal.returns-clause-err
returns-clause-err g c =
    on-err c.step_hart.result _ _
    (λ h. world-unchanged c.args.self.now.harts.items c.args.choice.hart c.index_mut.result.now c.step_hart.new.hart
    (g.S.Store.memory c.args.self.now.store) (g.S.Store.memory c.step_hart.new.store) (marks c.args.self.now.reserve)
    (marks c.step_hart.new.reserve) c.index_mut.ensures.value h.1) c.step_hart.ensures.err

pub returns-clause-stores : goal.returns-clause-stores
returns-clause-stores g c =
    let inside : c.args.choice.hart < length c.args.self.now.harts.items = rw length-map at c.requires in
    on-err c.step_hart.result _ _
    (step-stores c.args.self.now.harts.items c.args.choice c.index_mut.result.now (g.S.Store.memory c.args.self.now.store)
    (marks c.args.self.now.reserve) inside c.index_mut.ensures.value) c.step_hart.ensures.stores
