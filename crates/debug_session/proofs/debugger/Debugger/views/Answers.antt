use Rattle.debug_session.specs.Paged.{paged_world}
use Rattle.debug_session.proofs.TrackLemmas.{part_all}
use Rattle.debug_session.proofs.debugger.Debugger.views.Goals as goal

pub views_of-requires-clause-harts : goal.views_of-requires-clause-harts
views_of-requires-clause-harts g c =
    let track = c.args.self.now.track in
    rw (c.split_at-2.ensures.front, c.split_at.ensures.back, c.deref.ensures.value)
    (part_all track.image track.inputs track.choices.items c.args.from _ (paged_world c.in_ok-machine.machine) c.in_ok-machine.ensures.world track.harts)
