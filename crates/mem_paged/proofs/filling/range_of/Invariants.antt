use Rattle.std.proofs.Common.{◌≤◌, ◌^◌, take, All}
use Rattle.mem_paged.proofs.SegmentLemmas.{IsBetween}
use Rattle.mem_paged.proofs.filling.range_of.Given as goal

abbrev pub invariant-segments : goal.invariant-segments
invariant-segments g l = record {
  lowest : l.first ≤ 2 ^ 20;
  highest : l.end ≤ 2 ^ 20;
  between : All (IsBetween l.first l.end) (take l.segment-index l.segments);
}
