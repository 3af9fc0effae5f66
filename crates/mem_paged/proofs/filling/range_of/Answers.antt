use Rattle.std.proofs.Common.{◌+◌, ◌/◌, ◌∙◌, ap, min, max}
use Rattle.std.proofs.lemmas.List.{take_all}
use Rattle.std.specs.Int.{div_ceil}
use Rattle.image.specs.Segment.{SegmentValue}
use Rattle.mem_paged.proofs.SegmentLemmas.{between_next, covered_from}
use Rattle.mem_paged.proofs.filling.range_of.Goals as goal

pub segments-preserved : goal.segments-preserved
segments-preserved g c =
    let ends = c.requires c.segments.segment-index c.segment-item.result c.segments-test.true in
    between_next c.args.segments.now c.segments.segment-index c.segments.first c.segments.end _ _ c.segment-item.result c.segments-test.true c.segment-item.is
    (rw (← c.segment-item.is) at ends) c.segments.invariant.lowest c.segments.invariant.highest c.segments.invariant.between
    (c.min-first.ensures ∙ ap (λ (s : SegmentValue). min c.segments.first (s.base / 4096)) c.segment.view_is)
    (c.max-end.ensures ∙ ap (max c.segments.end) (c.div_ceil.ensures ∙ ap (λ (s : SegmentValue). div_ceil (s.base + s.size) 4096) c.segment.view_is))

pub returns-clause-covered : goal.returns-clause-covered
returns-clause-covered g c =
    rw c.saturating_sub.ensures
    (covered_from c.args.segments.now c.segments.first c.segments.end (rw (take_all c.segments.segment-index c.args.segments.now c.segments-test.false) at c.segments.invariant.between))
