use Rattle.std.proofs.Common.{refl, sym, subst, ◌∙◌, inl, inr, true≢false}
use Rattle.explore_search.specs.Marked.{AllBelow}
use Rattle.explore_bounds.specs.Numbers.{HasOver}
use Rattle.explore_bounds.proofs.NumberLemmas.{pass_smaller, settled_after}
use Rattle.explore_bounds.proofs.bound.raise_all.Goals as goal

pub passes-init : goal.passes-init
passes-init g c = record {
  even = refl;
  even_via = refl;
  settled = λ none. absurd (true≢false none);
  under = λ none. absurd (true≢false none);
  taken = λ place keys have own h. h;
}

pub raise_more-is_more-requires-clause-below : goal.raise_more-is_more-requires-clause-below
raise_more-is_more-requires-clause-below g c = subst (λ n. AllBelow n c.args.rows.now) (sym c.passes.invariant.even) c.requires.below

pub passes-preserved : goal.passes-preserved
passes-preserved g c = record {
  even = c.raise_more-is_more.ensures.even ∙ c.passes.invariant.even;
  even_via = c.raise_more-is_more.ensures.via ∙ c.passes.invariant.even_via;
  settled = settled_after c.args.turns.now c.args.hart c.args.rows.now c.args.steps.now c.passes.numbers c.raise_more-is_more.new.numbers
      c.raise_more-is_more.result c.raise_more-is_more.ensures.raises;
  under = λ none. subst (HasOver c.args.limit c.raise_more-is_more.new.numbers) c.if-has_over.false c.has_over.ensures;
  taken = λ place keys have own h. c.raise_more-is_more.ensures.taken place keys have own (c.passes.invariant.taken place keys have own h);
}

pub passes-smaller : goal.passes-smaller
passes-smaller g c =
    pass_smaller c.args.turns.now c.args.hart c.args.rows.now c.args.steps.now c.passes.numbers c.raise_more-is_more.new.numbers
    c.passes.is_more c.raise_more-is_more.result c.passes-test.true c.raise_more-is_more.ensures.raises

pub returns-then-has_over-clause-ends : goal.returns-then-has_over-clause-ends
returns-then-has_over-clause-ends g c =
    inl (subst (HasOver c.args.limit c.raise_more-is_more.new.numbers) c.if-has_over.true c.has_over.ensures)

pub returns-then-goes_round-clause-ends : goal.returns-then-goes_round-clause-ends
returns-then-goes_round-clause-ends g c = inr (c.goes_round.ensures c.if-goes_round.true)

pub returns-then-goes_round-clause-taken : goal.returns-then-goes_round-clause-taken
returns-then-goes_round-clause-taken g c place keys have own h =
    c.raise_more-is_more.ensures.taken place keys have own (c.passes.invariant.taken place keys have own h)

pub returns-clause-ends : goal.returns-clause-ends
returns-clause-ends g c = (c.passes.invariant.settled c.passes-test.false, c.passes.invariant.under c.passes-test.false)

pub returns-then-has_over-clause-taken : goal.returns-then-has_over-clause-taken
returns-then-has_over-clause-taken g c place keys have own h =
    c.raise_more-is_more.ensures.taken place keys have own (c.passes.invariant.taken place keys have own h)
