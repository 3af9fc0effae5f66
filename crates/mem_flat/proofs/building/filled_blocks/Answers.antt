use Rattle.image.proofs.Sound.{extent_from_sound}
use Rattle.mem_flat.proofs.building.filled_blocks.Goals as goal

pub of_segment-requires-clause-in_range : goal.of_segment-requires-clause-in_range
of_segment-requires-clause-in_range g c =
    (extent_from_sound _ _ _ _ (rw (← c.segments-segments.ensures.value) at c.segments-segments.ensures.sound) c.each-test.true c.segment-item.is).0

pub of_segment-requires-clause-fits : goal.of_segment-requires-clause-fits
of_segment-requires-clause-fits g c =
    (extent_from_sound _ _ _ _ (rw (← c.segments-segments.ensures.value) at c.segments-segments.ensures.sound) c.each-test.true c.segment-item.is).1
