use Rattle.std.proofs.Common.{arith, get_or, subst, ◌∙◌}
use Rattle.std.proofs.lemmas.Option.{slice_get-get_or}
use Rattle.explore_bounds.specs.Numbers.{EndsRaising}
use Rattle.explore_bounds.proofs.BoundLemmas.{exact_from, none_from}
use Rattle.explore_bounds.proofs.NumberLemmas.{none_taken}
use Rattle.explore_bounds.proofs.bound.bound_from.Goals as goal

pub returns-then-raise_all : goal.returns-then-raise_all
returns-then-raise_all g c quiet clear stride waits first w aligned covers place keys plain meant_h are_clear led have own =
    exact_from quiet clear stride waits first w aligned covers c.args.turns.now c.args.hart place keys c.args.rows.now c.args.steps.now c.raise_all.new.numbers c.args.limit
    plain (get_or c.raise_all.new.numbers 0 0) meant_h are_clear led have own (c.raise_all.ensures.even ∙ c.requires.even) c.requires.limit
    (subst (EndsRaising c.args.turns.now c.args.hart c.args.rows.now c.args.steps.now c.args.limit c.raise_all.new.numbers)
    c.if-raise_all.true c.raise_all.ensures.ends)
    (c.raise_all.ensures.taken place keys have own
    (none_taken c.args.turns.now c.args.hart place keys c.args.numbers.now c.requires.none))
    (slice_get-get_or c.raise_all.new.numbers 0 0
    (let some = c.requires.some in let even = c.requires.even in let same = c.raise_all.ensures.even in omega (arith, some, even, same)))

pub returns-else-raise_all : goal.returns-else-raise_all
returns-else-raise_all g c quiet clear stride waits first w aligned covers place keys plain meant_h are_clear led have own =
    none_from quiet clear stride waits first w aligned covers c.args.turns.now c.args.hart place keys c.args.rows.now c.args.steps.now c.raise_all.new.numbers c.args.limit
    plain led have own (c.raise_all.ensures.even ∙ c.requires.even) c.requires.limit
    (subst (EndsRaising c.args.turns.now c.args.hart c.args.rows.now c.args.steps.now c.args.limit c.raise_all.new.numbers)
    c.if-raise_all.false c.raise_all.ensures.ends)
    (c.raise_all.ensures.taken place keys have own
    (none_taken c.args.turns.now c.args.hart place keys c.args.numbers.now c.requires.none))
