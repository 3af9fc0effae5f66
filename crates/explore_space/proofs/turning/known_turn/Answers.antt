use Rattle.explore_space.specs.Habits.{habits_of}
use Rattle.explore_space.proofs.MemoLemmas.{kept_turn, turn_kept, turns_stay}
use Rattle.explore_space.proofs.turning.known_turn.Goals as goal

pub returns-in-Some-len3-clause-there : goal.returns-in-Some-len3-clause-there
returns-in-Some-len3-clause-there g c =
    (kept_turn (habits_of c.args.code.now) c.args.image.now c.args.harts.now.parts.items c.args.shareds.now.parts.items c.args.turns.now.keys
    c.args.turns.now.answers c.in-Some-len3.ensures.0 c.args.hart c.args.shared c.refusal_word.result c.args.turn c.in-Some-len3.field-0.now
    c.requires.kept c.refusal_word.ensures c.in-Some-len3.ensures.1 c.in-Some-len3.len_at_least c.in-Some-len3.len_below).0

pub returns-in-Some-len3-clause-turns : goal.returns-in-Some-len3-clause-turns
returns-in-Some-len3-clause-turns g c =
    (kept_turn (habits_of c.args.code.now) c.args.image.now c.args.harts.now.parts.items c.args.shareds.now.parts.items c.args.turns.now.keys
    c.args.turns.now.answers c.in-Some-len3.ensures.0 c.args.hart c.args.shared c.refusal_word.result c.args.turn c.in-Some-len3.field-0.now
    c.requires.kept c.refusal_word.ensures c.in-Some-len3.ensures.1 c.in-Some-len3.len_at_least c.in-Some-len3.len_below).1

pub returns-in_err-turned-clause-kept : goal.returns-in_err-turned-clause-kept
returns-in_err-turned-clause-kept g c =
    turns_stay (habits_of c.args.code.now) c.args.image.now c.args.harts.now.parts.items c.turn_parts.new.harts.parts.items c.args.shareds.now.parts.items
    c.turn_parts.new.shareds.parts.items c.in_err-turned.ensures.harts_go c.in_err-turned.ensures.shareds_go _ _ c.requires.kept

pub returns-in_err-keep-clause-kept : goal.returns-in_err-keep-clause-kept
returns-in_err-keep-clause-kept g c =
    turn_kept (habits_of c.args.code.now) c.args.image.now c.args.harts.now.parts.items c.turn_parts.new.harts.parts.items c.args.shareds.now.parts.items
    c.turn_parts.new.shareds.parts.items c.in_ok-turned.ensures.harts_go c.in_ok-turned.ensures.shareds_go _ _ _ _ c.args.hart c.args.shared
    c.in_ok-turned.turned.hart c.in_ok-turned.turned.shared c.in_ok-turned.turned.steps c.refusal_word.result c.args.turn c.requires.kept
    c.in_err-keep.ensures c.refusal_word.ensures (c.requires.hart, c.requires.shared) c.in_ok-turned.ensures.there c.in_ok-turned.ensures.turns

pub returns-clause-kept : goal.returns-clause-kept
returns-clause-kept g c =
    turn_kept (habits_of c.args.code.now) c.args.image.now c.args.harts.now.parts.items c.turn_parts.new.harts.parts.items c.args.shareds.now.parts.items
    c.turn_parts.new.shareds.parts.items c.in_ok-turned.ensures.harts_go c.in_ok-turned.ensures.shareds_go _ _ _ _ c.args.hart c.args.shared
    c.in_ok-turned.turned.hart c.in_ok-turned.turned.shared c.in_ok-turned.turned.steps c.refusal_word.result c.args.turn c.requires.kept
    c.in_ok-keep.ensures c.refusal_word.ensures (c.requires.hart, c.requires.shared) c.in_ok-turned.ensures.there c.in_ok-turned.ensures.turns
