use Rattle.std.proofs.Common.{◌≡◌, ◌-◌, drop, length}
use Rattle.mem_store.specs.Image.{segments_memory}
use Rattle.mem_paged.specs.Building.{built, IsEven}
use Rattle.mem_paged.proofs.filling.filled.Given as goal

abbrev pub invariant-segments : goal.invariant-segments
invariant-segments g l = record {
  even : IsEven l.building;
  memory : built l.building ≡ segments_memory (drop (length l.segments - l.i) l.segments);
  first : l.building.directory.first ≡ l.first;
  count : length l.building.directory.index ≡ l.count;
}
