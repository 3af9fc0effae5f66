use Rattle.std.proofs.Common.{◌≡◌, ◌-◌, ◌≤◌, length}
use Rattle.mem_paged.specs.Building.{built, over, IsEven}
use Rattle.mem_paged.proofs.SegmentLemmas.{beginning}
use Rattle.mem_paged.proofs.building.Building.add.Given as goal

abbrev pub invariant-runs : goal.invariant-runs
invariant-runs g l = record {
  even : IsEven l.self;
  memory : built l.self ≡ over (beginning l.segment l.i) (built l.fn.self);
  first : l.self.directory.first ≡ l.fn.self.directory.first;
  count : length l.self.directory.index ≡ length l.fn.self.directory.index;
  inside : l.i ≤ l.segment.size;
}

abbrev pub decreases-runs : goal.decreases-runs
decreases-runs g l = l.segment.size - l.i
