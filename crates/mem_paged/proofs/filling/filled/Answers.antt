use Rattle.std.proofs.Common.{◌-◌, ◌∙◌, sym, ap, arith, length}
use Rattle.std.proofs.lemmas.List.{drop_all}
use Rattle.mem_store.specs.Image.{segments_memory}
use Rattle.mem_paged.proofs.SegmentLemmas.{sound_ends, segments-more, no_segments}
use Rattle.mem_paged.proofs.filling.filled.Goals as goal

pub range_of-first-requires : goal.range_of-first-requires
range_of-first-requires g c = sound_ends _ _ (rw (← c.segments-segments.ensures.value) at c.segments-segments.ensures.sound)

pub segments-init : goal.segments-init
segments-init g c = record {
  even = c.in_ok-building.ensures.even.0;
  memory = c.in_ok-building.ensures.even.1
      ∙ sym (ap segments_memory (drop_all (length c.segments-segments.result.now - 0) c.segments-segments.result.now (omega arith)) ∙ no_segments);
  first = c.in_ok-building.ensures.room.0;
  count = c.in_ok-building.ensures.room.1;
}

pub add-requires-clause-covered : goal.add-requires-clause-covered
add-requires-clause-covered g c =
    let range = c.range_of-first.ensures.covered (length c.segments-segments.result.now - 1 - c.segments.i) c.index-segments-segments.result (omega arith) in
    rw (c.segments.invariant.first, c.segments.invariant.count) (rw (← c.index-segments-segments.is) at range)

pub segments-preserved : goal.segments-preserved
segments-preserved g c = record {
  even = c.in_ok-add.ensures.even;
  memory = segments-more c.segments-segments.result.now c.segments.i c.index-segments-segments.result _ _ c.segments-test.true c.index-segments-segments.is
      c.segments.invariant.memory c.in_ok-add.ensures.memory;
  first = c.in_ok-add.ensures.room.0 ∙ c.segments.invariant.first;
  count = c.in_ok-add.ensures.room.1 ∙ c.segments.invariant.count;
}
