use Rattle.object_library.specs.Images.{cell}
use Rattle.object_library.specs.Cells.{known, AgreeOn}
use Rattle.object_library.proofs.certifying.agrees_on.Given as goal

abbrev pub invariant-offsets : goal.invariant-offsets
invariant-offsets g l = AgreeOn (cell l.segments) (known l.words l.zeros) l.base l.offset
