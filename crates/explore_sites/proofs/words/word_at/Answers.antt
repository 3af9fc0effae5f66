use Rattle.std.proofs.Common.{sym, ◌∙◌}
use Rattle.std.proofs.lemmas.Option.{slice_get-get_or}
use Rattle.explore_sites.specs.Cells.{image_words}
use Rattle.explore_sites.proofs.CellLemmas.{value_there, value_else}
use Rattle.explore_sites.proofs.words.word_at.Goals as goal

pub returns-in-Some : goal.returns-in-Some
returns-in-Some g c =
    let there = slice_get-get_or c.args.cells.now c.in-Some.at c.index-cells-at.result c.in-Some.ensures.within in
    sym (value_there (image_words c.args.image.now) c.args.cells.now c.in-Some.at c.args.address _ there
    (c.in-Some.ensures.found _ there) c.in-Some.ensures.first)

pub returns-in-None : goal.returns-in-None
returns-in-None g c =
    c.own_word.ensures ∙ sym (value_else (image_words c.args.image.now) c.args.cells.now c.args.address c.in-None.ensures.none)
