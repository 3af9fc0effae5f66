use Rattle.std.proofs.Common.{ap, ◌∙◌, ◌-◌}
use Rattle.image.specs.Segment.{SegmentValue}
use Rattle.bank_step.proofs.ImageLemmas.{bytes_seen}
use Rattle.bank_step.proofs.image_bytes.bytes_in_one.Goals as goal

pub returns : goal.returns
returns g c =
    bytes_seen c.args.segments.now c.args.address c.in_ok-segment.segment.now c.deref.result.now c.saturating_sub-offset.result c.in_ok-segment.ensures.all c.in_ok-segment.ensures.first
    (c.deref.ensures.value ∙ ap (λ (s : SegmentValue). s.bytes) c.segment.view_is)
    (c.saturating_sub-offset.ensures ∙ ap (λ (s : SegmentValue). c.args.address - s.base) c.segment.view_is)
