use Rattle.std.proofs.Common.{◌≡◌, drop}
use Rattle.object_library.specs.Images.{cell}
use Rattle.object_library.proofs.certifying.cell_at.Given as goal

abbrev pub invariant-segments : goal.invariant-segments
invariant-segments g l = cell l.segments l.address ≡ cell (drop l.segment-index l.segments) l.address
