use Rattle.std.proofs.Common.{ap}
use Rattle.std.proofs.lemmas.List.{map-set}
use Rattle.hart_step.specs.Hart.{hart_of}
use Rattle.hart_reservations.specs.Reserve.{marks}
use Rattle.machine.proofs.machine.Machine.put_hart.Goals as goal

pub returns : goal.returns
returns g c =
    ap (λ hs. record { harts = hs; memory = g.S.Store.memory c.args.self.now.store; reserved = marks c.args.self.now.reserve })
    (map-set hart_of c.args.self.now.harts.items c.args.number c.args.hart)
