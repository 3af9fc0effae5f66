use Rattle.std.proofs.Common.{◌≡◌, ◌/◌, ◌<◌, [], length, refl, ap, sym, subst, ◌∙◌, arith}
use Rattle.std.proofs.lemmas.List.{append-nil}
use Rattle.std.proofs.lemmas.Option.{slice_get_read, get_or_from_slice_get}
use Rattle.std.specs.List.{slice_index}
use Rattle.mem_store.specs.Memory.{Memory}
use Rattle.mem_store.specs.Image.{image_memory}
use Rattle.hart_step.specs.Hart.{hart_of}
use Rattle.hart_local.specs.CodeMemory.{code_in}
use Rattle.explore_space.specs.Habits.{habits_of}
use Rattle.explore_space.specs.Places.{chosen_worded, hart_in, hart_numbered}
use Rattle.explore_space.specs.Resting.{at_once, rested}
use Rattle.explore_space.proofs.KeyLemmas.{kept, taken_at}
use Rattle.explore_space.proofs.SettledKeys.{settled_is_key_of}
use Rattle.explore_space.proofs.beginning.rested_key.Goals as goal

pub index-requires : goal.index-requires
index-requires g c =
    let low = c.requires.there in
    let long = c.requires.is.len in
    let inside : c.args.number < length c.args.key.items = omega (arith, low, long) in
    let got = slice_get_read c.args.key.items (length c.args.key.items) c.args.number c.index-word.result.now refl inside c.index-word.ensures in
    let at : slice_index c.args.key.items c.args.number ≡ c.index-word.result.now
    = get_or_from_slice_get c.args.key.items c.args.number c.index-word.result.now 0 got in
    let known = c.requires.is.harts c.args.number _ (taken_at c.args.count c.args.key.items c.args.number low inside) in
    let half = c.hart_of_word.ensures in
    let len = c.args.harts.now.parts.ok.0 in
    omega (arith, at, half, known, len)

pub returns-in_err-id-clause-kept : goal.returns-in_err-id-clause-kept
returns-in_err-id-clause-kept g c =
    kept c.args.image.now c.args.count c.args.harts.now.parts.items c.keep_hart.new.harts.parts.items c.args.shareds.now c.args.shareds.now
    c.in_err-id.ensures.goes_on ([], sym (append-nil c.args.shareds.now)) (λ once. (c.in_err-id.ensures.once once.0, once.1)) (habits_of c.args.code.now)

pub returns-in_err-next-clause-kept : goal.returns-in_err-next-clause-kept
returns-in_err-next-clause-kept g c =
    kept c.args.image.now c.args.count c.args.harts.now.parts.items c.keep_hart.new.harts.parts.items c.args.shareds.now c.args.shareds.now
    c.in_ok-id.ensures.goes_on ([], sym (append-nil c.args.shareds.now)) (λ once. (c.in_ok-id.ensures.once once.0, once.1)) (habits_of c.args.code.now)

pub returns-clause-kept : goal.returns-clause-kept
returns-clause-kept g c =
    kept c.args.image.now c.args.count c.args.harts.now.parts.items c.keep_hart.new.harts.parts.items c.args.shareds.now c.args.shareds.now
    c.in_ok-id.ensures.goes_on ([], sym (append-nil c.args.shareds.now)) (λ once. (c.in_ok-id.ensures.once once.0, once.1)) (habits_of c.args.code.now)

pub returns-clause-key : goal.returns-clause-key
returns-clause-key g c =
    let harts = c.args.harts.now.parts.items in
    let low = c.requires.there in
    let long = c.requires.is.len in
    let once = c.requires.is.once in
    let inside : c.args.number < length c.args.key.items = omega (arith, low, long) in
    let got = slice_get_read c.args.key.items (length c.args.key.items) c.args.number c.index-word.result.now refl inside c.index-word.ensures in
    let at : slice_index c.args.key.items c.args.number ≡ c.index-word.result.now
    = get_or_from_slice_get c.args.key.items c.args.number c.index-word.result.now 0 got in
    let half : slice_index c.args.key.items c.args.number / 2 ≡ c.hart_of_word.result = ap (λ w. w / 2) at ∙ sym c.hart_of_word.ensures in
    let known = subst (λ i. i < length harts) half
    (c.requires.is.harts c.args.number _ (taken_at c.args.count c.args.key.items c.args.number low inside)) in
    let there = slice_get_read harts (length harts) c.hart_of_word.result c.index.result.now refl known c.index.ensures in
    settled_is_key_of (habits_of c.args.code.now) c.args.image.now c.args.count harts c.keep_hart.new.harts.parts.items c.args.shareds.now
    c.in_ok-id.ensures.goes_on ([], sym (append-nil c.args.shareds.now)) c.args.key.items _ c.requires.is c.args.number c.in_ok-next.field-0
    c.in_ok-id.id low c.in_ok-next.ensures.hart (c.in_ok-next.ensures.chosen ∙ c.is_chosen_word.ensures ∙ ap chosen_worded (sym at))
    c.in_ok-id.ensures.there refl
    (c.in_ok-id.ensures.is ∙ c.settle.ensures.hart
    ∙ ap (λ (m : Memory). rested c.args.code.now.section m at_once (hart_of c.index.result.now)) c.requires.its_code
    ∙ ap (λ o. rested c.args.code.now.section (code_in (image_memory c.args.image.now)) at_once (hart_in o)) (sym there)
    ∙ ap (λ i. rested c.args.code.now.section (code_in (image_memory c.args.image.now)) at_once (hart_numbered harts i)) (sym half))
    (c.in_ok-id.ensures.once once.0, once.1)
