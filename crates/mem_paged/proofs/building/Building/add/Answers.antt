use Rattle.std.proofs.Common.{◌∙◌, sym, ap, arith, refl}
use Rattle.image.specs.Segment.{SegmentValue}
use Rattle.mem_paged.specs.Building.{built}
use Rattle.mem_paged.proofs.SegmentLemmas.{over_none, over_whole, run_over_seen}
use Rattle.mem_paged.proofs.building.Building.add.Goals as goal

pub runs-init : goal.runs-init
runs-init g c = record {
  even = c.requires.even;
  memory = sym (over_none c.args.segment.now (built c.args.self.now));
  first = refl;
  count = refl;
  inside = omega arith;
}

pub runs-preserved : goal.runs-preserved
runs-preserved g c = record {
  even = c.in_ok-put.ensures.even;
  memory = c.in_ok-put.ensures.memory
      ∙ run_over_seen c.args.segment.now _ (built c.args.self.now) (built c.runs.self) c.runs.i c.run_of-count.result _ c.segment.view_is c.deref.ensures.value c.runs.invariant.memory;
  first = c.in_ok-put.ensures.room.0 ∙ c.runs.invariant.first;
  count = c.in_ok-put.ensures.room.1 ∙ c.runs.invariant.count;
  inside = omega (arith, c.run_of-count.ensures.within, c.runs.invariant.inside, ap (λ (s : SegmentValue). s.size) c.segment.view_is);
}

pub overflow_add-i : goal.overflow_add-i
overflow_add-i g c =
    omega (arith, c.run_of-count.ensures.within, c.runs.invariant.inside, ap (λ (s : SegmentValue). s.size) c.segment.view_is)

pub returns-clause-memory : goal.returns-clause-memory
returns-clause-memory g c =
    c.runs.invariant.memory
    ∙ over_whole c.args.segment.now c.runs.i (built c.args.self.now) (omega (arith, c.runs.invariant.inside, c.runs-test.false, ap (λ (s : SegmentValue). s.size) c.segment.view_is))
