use Rattle.std.proofs.Common.{ℕ, List, set, ap, subst, ◌++◌, ◌∙◌}
use Rattle.std.specs.List.{slice_index}
use Rattle.explore_space.specs.Habits.{habits_of}
use Rattle.explore_space.specs.Places.{PartsTurn}
use Rattle.explore_space.proofs.KeyLemmas.{kept, next_is_key}
use Rattle.explore_space.proofs.turning.turned_key.Goals as goal

pub returns-in_err-turned-clause-kept : goal.returns-in_err-turned-clause-kept
returns-in_err-turned-clause-kept g c =
    kept c.args.image.now c.args.count c.args.harts.now.parts.items c.known_turn.new.harts.parts.items c.args.shareds.now.parts.items
    c.known_turn.new.shareds.parts.items c.in_err-turned.ensures.harts_go c.in_err-turned.ensures.shareds_go c.in_err-turned.ensures.once
    (habits_of c.args.code.now)

pub returns-in_err-word-clause-kept : goal.returns-in_err-word-clause-kept
returns-in_err-word-clause-kept g c =
    kept c.args.image.now c.args.count c.args.harts.now.parts.items c.known_turn.new.harts.parts.items c.args.shareds.now.parts.items
    c.known_turn.new.shareds.parts.items c.in_ok-turned.ensures.harts_go c.in_ok-turned.ensures.shareds_go c.in_ok-turned.ensures.once
    (habits_of c.args.code.now)

pub returns-in_err-extend_from_slice-clause-kept : goal.returns-in_err-extend_from_slice-clause-kept
returns-in_err-extend_from_slice-clause-kept g c =
    kept c.args.image.now c.args.count c.args.harts.now.parts.items c.known_turn.new.harts.parts.items c.args.shareds.now.parts.items
    c.known_turn.new.shareds.parts.items c.in_ok-turned.ensures.harts_go c.in_ok-turned.ensures.shareds_go c.in_ok-turned.ensures.once
    (habits_of c.args.code.now)

pub returns-clause-kept : goal.returns-clause-kept
returns-clause-kept g c =
    kept c.args.image.now c.args.count c.args.harts.now.parts.items c.known_turn.new.harts.parts.items c.args.shareds.now.parts.items
    c.known_turn.new.shareds.parts.items c.in_ok-turned.ensures.harts_go c.in_ok-turned.ensures.shareds_go c.in_ok-turned.ensures.once
    (habits_of c.args.code.now)

pub returns-clause-key : goal.returns-clause-key
returns-clause-key g c =
    let turned = c.in_ok-turned.turned in
    next_is_key (habits_of c.args.code.now) c.args.image.now c.args.count c.args.harts.now.parts.items c.known_turn.new.harts.parts.items
    c.args.shareds.now.parts.items c.known_turn.new.shareds.parts.items c.in_ok-turned.ensures.harts_go c.in_ok-turned.ensures.shareds_go
    c.args.key.now _ c.requires.is c.args.turn.hart c.in_ok-word.word turned.hart turned.shared turned.steps c.args.turn.refuse
    c.if-number-count.false c.in_ok-word.ensures.hart c.in_ok-word.ensures.chosen
    c.in_ok-turned.ensures.there.0 c.in_ok-turned.ensures.there.1
    (ap (λ (xs : List ℕ). set (set xs c.args.turn.hart c.in_ok-word.word) c.args.count turned.shared) (c.in_ok-extend_from_slice.ensures.items ∙ ap (λ (xs : List ℕ). xs ++ c.args.key.now) c.clear.ensures.items))
    (subst (λ i. PartsTurn (habits_of c.args.code.now) c.args.image.now c.args.turn c.args.harts.now.parts.items c.args.shareds.now.parts.items i
    (slice_index c.args.key.now c.args.count) c.known_turn.new.harts.parts.items c.known_turn.new.shareds.parts.items turned.hart turned.shared turned.steps)
    c.hart_of_word-hart.ensures c.in_ok-turned.ensures.turns)
    (c.in_ok-turned.ensures.once c.requires.is.once)
