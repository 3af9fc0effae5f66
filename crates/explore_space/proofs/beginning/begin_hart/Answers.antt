use Rattle.std.proofs.Common.{◌/◌, ◌<◌, ℕ, List, length, ap, sym, ◌∙◌, subst, arith}
use Rattle.std.specs.List.{slice_index}
use Rattle.explore_space.specs.Begun.{runs_outside}
use Rattle.explore_space.specs.Habits.{habits_of}
use Rattle.explore_space.specs.Places.{hart_worded, place_of_key, IsKeyOf}
use Rattle.explore_space.proofs.BeginLemmas.{begun_here, begun_not}
use Rattle.explore_space.proofs.KeyLemmas.{word_at}
use Rattle.explore_space.proofs.beginning.begin_hart.Goals as goal

pub runs_outside_at-requires-clause-there : goal.runs_outside_at-requires-clause-there
runs_outside_at-requires-clause-there g c =
    let low = c.requires.there in
    let len = c.in_ok-next.ensures.key.0.len in
    let same = ap length c.deref-2.ensures.value in
    omega (arith, low, len, same)

pub runs_outside_at-requires-clause-known : goal.runs_outside_at-requires-clause-known
runs_outside_at-requires-clause-known g c =
    subst (λ (k : List ℕ). slice_index k c.args.number / 2 < length c.rested_key.new.harts.parts.items) (sym c.deref-2.ensures.value)
    (c.in_ok-next.ensures.key.0.harts c.args.number _
    (word_at c.args.image.now c.args.count c.rested_key.new.harts.parts.items c.args.shareds.now c.in_ok-next.next.items
    c.in_ok-next.ensures.key.0 c.args.number c.requires.there))

pub returns-then-runs_outside_at : goal.returns-then-runs_outside_at
returns-then-runs_outside_at g c =
    let harts = c.rested_key.new.harts.parts.items in
    begun_here (habits_of c.args.code.now) c.args.image.now c.args.count harts c.args.shareds.now
    (place_of_key (habits_of c.args.code.now) c.args.image.now c.args.count c.args.harts.now.parts.items c.args.shareds.now c.args.key.items) c.args.number c.requires.there
    c.in_ok-next.next.items
    c.in_ok-next.ensures.key
    (ap (λ (k : List ℕ). runs_outside c.args.code.now.section (hart_worded harts (slice_index k c.args.number))) (sym c.deref-2.ensures.value)
    ∙ sym c.runs_outside_at.ensures ∙ c.if-runs_outside_at.true)

pub returns : goal.returns
returns g c =
    let harts = c.rested_key.new.harts.parts.items in
    begun_not (habits_of c.args.code.now) c.args.image.now c.args.count harts c.args.shareds.now
    (place_of_key (habits_of c.args.code.now) c.args.image.now c.args.count c.args.harts.now.parts.items c.args.shareds.now c.args.key.items) c.args.number c.requires.there
    c.in_ok-next.next.items
    c.in_ok-next.ensures.key c.in_ok-before.before.items
    (subst (λ (k : List ℕ). IsKeyOf (habits_of c.args.code.now) c.args.image.now c.args.count harts c.args.shareds.now k
    (place_of_key (habits_of c.args.code.now) c.args.image.now c.args.count c.args.harts.now.parts.items c.args.shareds.now c.args.key.items))
    (sym (c.in_ok-before.ensures.items ∙ c.deref.ensures.value)) (c.in_ok-next.ensures.kept c.args.key.items c.requires.is))
    (ap (λ (k : List ℕ). runs_outside c.args.code.now.section (hart_worded harts (slice_index k c.args.number))) (sym c.deref-2.ensures.value)
    ∙ sym c.runs_outside_at.ensures ∙ c.if-runs_outside_at.false)
