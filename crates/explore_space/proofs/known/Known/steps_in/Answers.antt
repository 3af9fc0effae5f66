use Rattle.std.proofs.Common.{◌/◌, ◌<◌, length, refl, ap, sym, subst, arith, ◌∙◌}
use Rattle.std.proofs.lemmas.Option.{slice_get_read}
use Rattle.std.proofs.lemmas.Result.{IfOk-weaker}
use Rattle.std.specs.List.{slice_get, slice_index}
use Rattle.explore_space.specs.Habits.{habits_of}
use Rattle.explore_space.specs.Places.{world_of_key, ShowsParts}
use Rattle.explore_space.proofs.KeyLemmas.{key_parts, word_at}
use Rattle.explore_space.proofs.MemoLemmas.{kept_turn}
use Rattle.explore_space.proofs.OwnLemmas.{key_shows}
use Rattle.explore_space.proofs.known.Known.steps_in.Goals as goal

pub returns-in-Some-len3 : goal.returns-in-Some-len3
returns-in-Some-len3 g c =
    let e = c.args.self.now in
    let n = length c.args.inputs.now in
    let key = c.args.key.now in
    let harts = e.harts.parts.items in
    let shareds = e.shareds.parts.items in
    let number = c.args.turn.hart in
    let count = c.harts-count.ensures.harts in
    let low = c.if-number-count.false in
    let inside : number < n = omega (arith, low, count) in
    let w = world_of_key e.image.now n harts shareds key in
    let turned = kept_turn (habits_of e.code.now) e.image.now harts shareds e.turns.keys e.turns.answers c.in-Some-len3.ensures.0
    c.hart_of_word-hart.result (slice_index key c.harts-count.result) c.refusal_word.result c.args.turn c.in-Some-len3.field-0.now e.turns_are
    c.refusal_word.ensures c.in-Some-len3.ensures.1 c.in-Some-len3.len_at_least c.in-Some-len3.len_below in
    turned.1.counts w
    (subst (λ i. ShowsParts e.image.now w number harts shareds i (slice_index key c.harts-count.result)) (sym c.hart_of_word-hart.ensures)
    (subst (λ i. ShowsParts e.image.now w number harts shareds (slice_index key number / 2) (slice_index key i)) (sym count)
    (key_parts e.image.now n harts shareds key c.requires number inside)))

pub index-hart-requires : goal.index-hart-requires
index-hart-requires g c =
    let e = c.args.self.now in
    let key = c.args.key.now in
    let number = c.args.turn.hart in
    let count = c.harts-count.ensures.harts in
    let low = c.if-number-count.false in
    let known = c.requires.harts number (slice_index key number)
    (word_at e.image.now (length c.args.inputs.now) e.harts.parts.items e.shareds.parts.items key c.requires number (omega (arith, low, count))) in
    let half = c.hart_of_word-hart.ensures in
    let len = e.harts.parts.ok.0 in
    omega (arith, known, half, len)

pub returns : goal.returns
returns g c =
    let e = c.args.self.now in
    let n = length c.args.inputs.now in
    let key = c.args.key.now in
    let harts = e.harts.parts.items in
    let shareds = e.shareds.parts.items in
    let number = c.args.turn.hart in
    let count = c.harts-count.ensures.harts in
    let low = c.if-number-count.false in
    let inside : number < n = omega (arith, low, count) in
    let half = c.hart_of_word-hart.ensures in
    let low = subst (λ i. i < length harts) (sym half)
    (c.requires.harts number (slice_index key number) (word_at e.image.now n harts shareds key c.requires number inside)) in
    let hart_there = ap (slice_get harts) (sym half)
    ∙ slice_get_read harts (length harts) c.hart_of_word-hart.result c.index-hart.result.now refl low c.index-hart.ensures in
    let shared_low : slice_index key c.harts-count.result < length shareds
    = subst (λ i. slice_index key i < length shareds) (sym count) c.requires.shared in
    let shared_there = slice_get_read shareds (length shareds) (slice_index key c.harts-count.result) c.index-shared.result.now refl
    shared_low c.index-shared.ensures in
    IfOk-weaker c.steps_from.result _ _
    (λ steps tells. tells (world_of_key e.image.now n harts shareds key)
    (key_shows e.image.now n harts shareds key c.requires number c.index-hart.result.now c.index-shared.result.now inside
    hart_there (ap (λ i. slice_get shareds (slice_index key i)) (sym count) ∙ shared_there)))
    c.steps_from.ensures
