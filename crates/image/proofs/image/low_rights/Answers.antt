use Rattle.std.proofs.Common.{◌≡◌, ◌∙◌, sym, ap, refl, arith}
use Rattle.image.specs.Image.{with_low_rights}
use Rattle.image.proofs.RightsLemmas.{lowered_more, lowered_to_the_end}
use Rattle.image.proofs.image.low_rights.Goals as goal

pub loop-segment-preserved : goal.loop-segment-preserved
loop-segment-preserved g c =
    lowered_more _ _ _ c.segment-item.result _ c.loop-segment.invariant (omega arith) c.segment-item.is
    (rw c.low-segment-inside.ensures (ap with_low_rights (c.segment.view_is ∙ sym c.segment-item.is)))

pub returns : goal.returns
returns g c = lowered_to_the_end _ _ c.loop-segment.segment-index _ c.loop-segment.invariant (omega arith) c.args.segments.ok.0
