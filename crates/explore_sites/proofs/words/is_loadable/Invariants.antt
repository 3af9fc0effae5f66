use Rattle.std.proofs.Common.{◌≡◌, drop}
use Rattle.mem_store.specs.Image.{segment_at}
use Rattle.explore_sites.proofs.words.is_loadable.Given as goal

-- no segment before has the address
abbrev pub invariant-segments : goal.invariant-segments
invariant-segments g l = segment_at (drop l.segment-index l.segments) l.address ≡ segment_at l.segments l.address
