use Rattle.std.proofs.Common.{◌≡◌, ◌<◌, length, refl, ap, sym, ◌∙◌, subst}
use Rattle.std.proofs.lemmas.Option.{slice_get_read}
use Rattle.std.specs.List.{slice_get, slice_index}
use Rattle.mem_store.specs.Image.{image_memory}
use Rattle.explore_sites.specs.Cells.{words_shown}
use Rattle.explore_space.specs.Failing.{breaks_word}
use Rattle.explore_space.specs.Places.{cells_in, world_of_key}
use Rattle.explore_space.proofs.WordBreaks.{over_rights}
use Rattle.explore_space.proofs.explorer.Explorer.breaks_word_at.Goals as goal

pub returns : goal.returns
returns g c =
    let e = c.args.self.now in
    let n = length e.inputs.now in
    let image = e.known.image.now in
    let key = c.args.key.now in
    let shareds = e.known.shareds.parts.items in
    let count = c.harts-count.ensures.harts in
    let shared_low : slice_index key c.harts-count.result < length shareds
    = subst (λ i. slice_index key i < length shareds) (sym count) c.requires.shared in
    let shared_there = slice_get_read shareds (length shareds) (slice_index key c.harts-count.result) c.index-shared.result.now refl
    shared_low c.index-shared.ensures in
    let words = words_shown image (cells_in (slice_get shareds (slice_index key n))) in
    let world = world_of_key image n e.known.harts.parts.items shareds key in
    subst (λ a. c.breaks_word.result ≡ breaks_word a world) (sym c.in-Some.is)
    (c.breaks_word.ensures world (over_rights (image_memory image) words)
    (λ x is_word. ap (λ l. words_shown image l x) c.deref.ensures.value
    ∙ ap (λ o. words_shown image (cells_in o) x) (sym shared_there ∙ ap (λ i. slice_get shareds (slice_index key i)) count)
    ∙ c.requires.words x is_word))
