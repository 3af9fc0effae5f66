use Rattle.std.proofs.Common.{◌≡◌, length, Some, refl, arith}
use Rattle.std.specs.List.{slice_get}
use Rattle.std.proofs.lemmas.Option.{slice_get_read}
use Rattle.explore_sites.proofs.CanonLemmas.{same_at}
use Rattle.explore_sites.proofs.sameness.are_same.Goals as goal

pub returns-then-not-is_same_cell : goal.returns-then-not-is_same_cell
returns-then-not-is_same_cell c = λ same.
    let one = c.args.one.now in
    let other = c.args.other.now in
    let here : slice_get one c.cells.at ≡ Some c.index-one-at.result
    = slice_get_read one (length one) c.cells.at c.index-one-at.result refl c.cells-test.true c.index-one-at.is in
    let there : slice_get other c.cells.at ≡ Some c.index-other-at.result
    = slice_get_read other (length other) c.cells.at c.index-other-at.result refl (omega (arith, c.cells-test.true, c.if-one-other.false))
    c.index-other-at.is in
    c.if-not-is_same_cell.ensures (same_at one other c.cells.at c.index-one-at.result c.index-other-at.result here there same)
