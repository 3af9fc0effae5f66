use Rattle.std.proofs.Common.{take}
use Rattle.object_library.specs.Images.{cell}
use Rattle.object_library.specs.Cells.{known, AgreeWhereCovered}
use Rattle.object_library.proofs.certifying.agrees_everywhere.Given as goal

abbrev pub invariant-segments : goal.invariant-segments
invariant-segments g l = AgreeWhereCovered (cell l.segments) (known l.words l.zeros) (take l.segment-index l.segments)
