use Rattle.std.proofs.Common.{◌+◌, drop, length, refl, ap, sym, ◌∙◌, arith}
use Rattle.std.proofs.lemmas.Option.{slice_get_read}
use Rattle.std.specs.List.{slice_index}
use Rattle.explore_sites.specs.Cells.{cell_words}
use Rattle.explore_space.specs.Hashes.{hash_of_cells, hash_row}
use Rattle.explore_space.proofs.HashLemmas.{cells_done, cells_more}
use Rattle.explore_space.proofs.hash.hash_of_cells.Goals as goal

pub cells-preserved : goal.cells-preserved
cells-preserved c =
    let cell = c.cell-item.result in
    let there = slice_get_read c.args.cells.now (length c.args.cells.now) c.cells.cell-index cell refl c.cells-test.true c.cell-item.is in
    let rest = cell_words (drop (c.cells.cell-index + 1) c.args.cells.now) in
    ap (λ h. hash_of_cells h rest) (c.hash_of_bytes-hash.ensures ∙ ap (λ h. hash_row h (slice_index cell.bytes) (length cell.bytes)) c.mixed.ensures)
    ∙ sym (cells_more c.cells.hash c.args.cells.now c.cells.cell-index cell there) ∙ c.cells.invariant

pub returns : goal.returns
returns c = sym (cells_done c.cells.hash c.args.cells.now c.cells.cell-index (let past = c.cells-test.false in omega (arith, past))) ∙ c.cells.invariant
