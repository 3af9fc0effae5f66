use Rattle.std.proofs.Common.{◌≡◌, ◌/◌, ◌<◌, length, take, map, get_or, Some, arith, ap, sym, subst, ◌∙◌, refl, List, [], ◌∷◌, ◌++◌}
use Rattle.std.proofs.lemmas.List.{take_more, map-append}
use Rattle.std.proofs.lemmas.Option.{slice_get_read}
use Rattle.std.specs.List.{slice_get}
use Rattle.hart_step.specs.Hart.{HartValue, hart_of}
use Rattle.explore_space.specs.Places.{hart_worded, hart_in}
use Rattle.explore_space.proofs.KeyLemmas.{taken_at}
use Rattle.explore_space.proofs.failing.harts_by_key.Goals as goal

pub bounds-harts-hart_of_word : goal.bounds-harts-hart_of_word
bounds-harts-hart_of_word g c =
    let below = c.harts-test.true in
    let long = c.requires.long in
    let half = c.hart_of_word.ensures in
    let known = c.requires.there c.harts.k _ (taken_at c.args.count c.args.key.now c.harts.k below (omega (arith, below, long))) in
    omega (arith, half, known)

pub harts-preserved : goal.harts-preserved
harts-preserved g c =
    let below = c.harts-test.true in
    let long = c.requires.long in
    let harts = c.args.harts.now in
    let word = get_or c.args.key.now c.harts.k 0 in
    let known = c.requires.there c.harts.k _ (taken_at c.args.count c.args.key.now c.harts.k below (omega (arith, below, long))) in
    let there : slice_get harts (word / 2) ≡ Some c.index-harts-hart_of_word.result
    = ap (slice_get harts) (sym c.hart_of_word.ensures)
    ∙ slice_get_read harts (length harts) c.hart_of_word.result c.index-harts-hart_of_word.result refl
    (subst (λ i. i < length harts) (sym c.hart_of_word.ensures) known) c.index-harts-hart_of_word.is in
    ap (map hart_of) c.in_ok-push.ensures.items ∙ map-append hart_of c.harts.ends.items (c.index-harts-hart_of_word.result ∷ [])
    ∙ ap (λ (xs : List HartValue). xs ++ hart_of c.index-harts-hart_of_word.result ∷ []) c.harts.invariant
    ∙ ap (λ o. map (hart_worded harts) (take c.harts.k c.args.key.now) ++ hart_in o ∷ []) (sym there)
    ∙ sym (map-append (hart_worded harts) (take c.harts.k c.args.key.now) (word ∷ []))
    ∙ ap (map (hart_worded harts)) (sym (take_more c.args.key.now c.harts.k 0 (omega (arith, below, long))))
