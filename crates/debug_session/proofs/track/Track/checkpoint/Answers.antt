use Rattle.std.proofs.Common.{arith}
use Rattle.std.proofs.lemmas.Option.{slice_get_read}
use Rattle.debug_session.proofs.track.Track.checkpoint.Goals as goal

pub returns : goal.returns
returns g c =
    let track = c.args.self.now in
    track.kept c.args.block c.index.result.now
    (slice_get_read track.checkpoints.items _ c.args.block c.index.result.now track.checkpoints.ok.0 (omega (arith, track.whole, c.requires)) c.index.ensures)
