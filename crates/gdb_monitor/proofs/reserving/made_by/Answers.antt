use Rattle.hart_reservations.specs.Reserve.{marks}
use Rattle.debug_session.specs.Paged.{paged_world}
use Rattle.gdb_monitor.proofs.ReservingLemmas.{asked_there}
use Rattle.gdb_monitor.proofs.reserving.made_by.Goals as goal

pub returns : goal.returns
returns g c =
    asked_there (marks c.reserve.result.now) (paged_world c.args.machine.now) c.args.hart
    c.args.access c.reserved_by.result c.reserved_by.ensures c.reserve.ensures
