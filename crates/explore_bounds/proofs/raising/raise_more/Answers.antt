use Rattle.std.proofs.Common.{◌+◌, ◌-◌, arith, length, refl, subst, sym, ◌∙◌, inl, inr}
use Rattle.std.proofs.lemmas.Option.{slice_get_within}
use Rattle.explore_table.proofs.ListLemmas.{get_there}
use Rattle.explore_search.specs.Marked.{AreBelow}
use Rattle.explore_bounds.proofs.NumberLemmas.{key_looked, pass_begins, pass_ends}
use Rattle.explore_bounds.proofs.raising.raise_more.Goals.{then-raise_one, else-raise_one}
use Rattle.explore_bounds.proofs.raising.raise_more.Goals as goal

pub keys-init : goal.keys-init
keys-init g c = record {
  even = refl;
  even_via = refl;
  raises = pass_begins c.args.turns.now c.args.hart c.args.rows.now c.args.steps.now c.args.numbers.now _
      (let even = c.requires.even in omega (arith, even));
  taken = λ place keys have own h. h;
}

pub raise_one-requires-clause-below : goal.raise_one-requires-clause-below
raise_one-requires-clause-below g c =
    subst (λ n. AreBelow n c.row-row.result.now) (sym c.keys.invariant.even)
    (c.requires.below (length c.args.numbers.now - 1 - c.keys.back) c.row-row.result.now c.row-row.ensures)

pub keys-preserved : goal.keys-preserved
keys-preserved g c =
    let low = c.keys-test.true in
    let number = length c.args.numbers.now - 1 - c.keys.back in
    record {
      even = c.raise_one.ensures.even ∙ c.keys.invariant.even;
      even_via = c.raise_one.ensures.via ∙ c.keys.invariant.even_via;
      raises = key_looked c.args.turns.now c.args.hart c.args.rows.now c.args.steps.now c.args.numbers.now c.keys.numbers
          c.raise_one.new.numbers (length c.args.numbers.now - c.keys.back) (length c.args.numbers.now - (c.keys.back + 1)) number
          c.row-row.result.now c.row-own.result.now c.keys.is_more c.raise_one.result c.if-raise_one.is_more (omega (arith, low)) (omega arith)
          c.row-row.ensures c.row-own.ensures c.keys.invariant.raises c.raise_one.ensures.raises (elim c.if-raise_one.branch [
            | then-raise_one w ↦ inl (w.if-raise_one.true, w.is_more-is)
            | else-raise_one w ↦ inr (w.if-raise_one.false, w.is_more-is)
          ]);
      taken = λ place keys have own h.
          let inside = slice_get_within c.args.rows.now number c.row-row.result.now c.row-row.ensures in
          let count = have.count in
          let key = get_there keys number (omega (arith, inside, count)) in
          let from = have.edges number key.0 c.row-row.result.now key.1 c.row-row.ensures in
          c.raise_one.ensures.taken place keys key.0 key.1 from.lead (own.from number key.0 c.row-own.result.now key.1 c.row-own.ensures)
          (c.keys.invariant.taken place keys have own h);
    }

pub returns-clause-raises : goal.returns-clause-raises
returns-clause-raises g c =
    let end = c.keys-test.false in
    pass_ends c.args.turns.now c.args.hart c.args.rows.now c.args.steps.now c.args.numbers.now c.keys.numbers
    (length c.args.numbers.now - c.keys.back) c.keys.is_more (omega (arith, end)) c.keys.invariant.raises
