use Rattle.std.proofs.Common.{arith, ap, ◌∙◌, drop}
use Rattle.machine.specs.Start.{started}
use Rattle.debug_session.specs.Paged.{paged_world}
use Rattle.debug_session.proofs.TrackLemmas.{part_all}
use Rattle.debug_session.proofs.KeptLemmas.{run_further}
use Rattle.debug_session.proofs.track.Track.machine_at.Goals as goal

pub walk-requires-clause-harts : goal.walk-requires-clause-harts
walk-requires-clause-harts g c =
    let track = c.args.self.now in
    rw (c.split_at-2.ensures.front, c.split_at.ensures.back, c.deref.ensures.value)
    (part_all track.image track.inputs track.choices.items _ _ (paged_world c.in_ok-machine.machine)
    (c.in_ok-machine.ensures ∙ c.checkpoint.ensures) track.harts)

pub returns-clause-world : goal.returns-clause-world
returns-clause-world g c =
    let track = c.args.self.now in
    run_further (started track.image track.inputs) (paged_world c.in_ok-machine.machine) (paged_world c.walk.new.machine) track.choices.items _ _
    _ _ c.args.k (c.in_ok-machine.ensures ∙ c.checkpoint.ensures)
    (c.split_at.ensures.back ∙ ap (drop _) c.deref.ensures.value) c.split_at-2.ensures.front c.in_ok-walk.ensures.ok (omega arith)
