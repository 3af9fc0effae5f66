use Rattle.std.proofs.Common.{◌∙◌, sym}
use Rattle.object_library.specs.Images.{cell}
use Rattle.object_library.specs.Cells.{known}
use Rattle.object_library.proofs.CellLemmas.{one_more}
use Rattle.object_library.proofs.certifying.agrees_on.Goals as goal

pub offsets-preserved : goal.offsets-preserved
offsets-preserved g c =
    one_more (cell c.args.segments.now) (known c.args.words.now c.args.zeros) c.args.base c.offsets.offset c.offsets.invariant
    (sym c.cell_at.ensures ∙ c.is_same_cell.ensures.yes c.if-not-is_same_cell.false ∙ c.known_cell.ensures)
