use Rattle.std.proofs.Common.{◌≡◌, ◌≤◌, ◌∙◌, ap, subst, length}
use Rattle.hart_reservations.specs.Reserve.{marks}
use Rattle.debug_session.specs.Paged.{paged_world}
use Rattle.debug_session.specs.Session.{session, world_at, last_of}
use Rattle.gdb_monitor.specs.Reserving.{reserves, found_word}
use Rattle.gdb_monitor.proofs.ReservingLemmas.{found_known, read_there}
use Rattle.gdb_monitor.proofs.reserving.reserved_at.Goals as goal

pub word_of-requires-clause-known : goal.word_of-requires-clause-known
word_of-requires-clause-known g c =
    let s = session c.args.debugger.now in
    let t = c.in_ok-target.target in
    found_known s c.args.hart t.position c.found_word-word.result t.reason
    (marks c.reserve.result.now) (paged_world c.machine.result.now)
    (subst (λ n. n ≤ length s.choices) c.position.ensures.value c.position.ensures.inside)
    (subst (λ n. (t.position, t.reason) ≡ last_of (reserves c.args.hart) s n)
    c.position.ensures.value c.in_ok-target.ensures.found)
    (c.found_word-word.ensures ∙ ap found_word c.reason.ensures) c.reserve.ensures
    c.machine.ensures

pub returns : goal.returns
returns g c =
    let s = session c.args.debugger.now in
    read_there (marks c.reserve.result.now) (paged_world c.machine.result.now)
    (world_at s s.position) c.args.hart c.word_of.result c.word_of.ensures c.reserve.ensures
    c.machine.ensures
