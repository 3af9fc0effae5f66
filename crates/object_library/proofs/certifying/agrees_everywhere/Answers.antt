use Rattle.std.proofs.Common.{◌≤◌, ◌+◌, ◌^◌, subst, sym}
use Rattle.image.specs.Segment.{SegmentValue}
use Rattle.object_library.specs.Images.{cell}
use Rattle.object_library.specs.Cells.{known, AgreeOn}
use Rattle.object_library.proofs.CellLemmas.{more}
use Rattle.object_library.proofs.certifying.agrees_everywhere.Goals as goal

pub agrees_on-requires-clause-fits : goal.agrees_on-requires-clause-fits
agrees_on-requires-clause-fits g c =
    subst (λ (s : SegmentValue). s.base + s.size ≤ 2 ^ 32) (sym c.segment.view_is)
    (c.requires.fits c.segments.segment-index c.segment-item.result c.segments-test.true c.segment-item.is)

pub segments-preserved : goal.segments-preserved
segments-preserved g c =
    more (cell c.args.segments.now) (known c.args.words.now c.args.zeros) c.args.segments.now c.segments.segment-index c.segment-item.result c.segments-test.true c.segments.invariant
    (subst (λ (s : SegmentValue). AgreeOn (cell c.args.segments.now) (known c.args.words.now c.args.zeros) s.base s.size) c.segment-item.is
    (subst (λ (s : SegmentValue). AgreeOn (cell c.args.segments.now) (known c.args.words.now c.args.zeros) s.base s.size) c.segment.view_is
    (c.agrees_on.ensures.yes c.if-not-agrees_on.false)))
