use Rattle.std.proofs.Common.{◌≡◌, ◌/◌, ◌<◌, length, Some, refl, ap, sym, subst, ◌∙◌}
use Rattle.std.proofs.lemmas.Option.{slice_get_read}
use Rattle.std.specs.List.{slice_get, slice_index}
use Rattle.hart_step.specs.Hart.{hart_of}
use Rattle.explore_space.specs.Places.{hart_in, world_of_key}
use Rattle.explore_space.proofs.KeyLemmas.{hart_at, word_at}
use Rattle.explore_space.proofs.explorer.Explorer.strays_there.Goals as goal

pub returns : goal.returns
returns g c =
    let e = c.args.self.now in
    let image = e.known.image.now in
    let n = length e.inputs.now in
    let key = c.args.key.now in
    let harts = e.known.harts.parts.items in
    let shareds = e.known.shareds.parts.items in
    let number = c.args.number in
    let low : slice_index key number / 2 < length harts
    = c.requires.is.harts number (slice_index key number) (word_at image n harts shareds key c.requires.is number c.requires.there) in
    let half = c.hart_of_word.ensures in
    let hart_there = ap (slice_get harts) (sym half)
    ∙ slice_get_read harts (length harts) c.hart_of_word.result c.index-hart.result.now refl (subst (λ i. i < length harts) (sym half) low)
    c.index-hart.ensures in
    let at : slice_get (world_of_key image n harts shareds key).harts number ≡ Some (hart_of c.index-hart.result.now)
    = hart_at image n harts shareds key c.requires.is number c.requires.there ∙ ap (λ o. Some (hart_in o)) hart_there in
    c.strays.ensures (world_of_key image n harts shareds key) at c.requires.is.keeps
