use Rattle.std.proofs.Common.{◌≡◌, Some, arith, get_or, refl, ◌∙◌, inl, inr}
use Rattle.std.specs.List.{slice_get}
use Rattle.std.proofs.lemmas.Option.{slice_get-get_or}
use Rattle.explore_table.proofs.ListLemmas.{get_there}
use Rattle.explore_bounds.proofs.NumberLemmas.{none_looked, turn_looked, turn_taken}
use Rattle.explore_bounds.proofs.raising.raise_one.Goals.{then-raise_to, else-raise_to}
use Rattle.explore_bounds.proofs.raising.raise_one.Goals as goal

pub turns-init : goal.turns-init
turns-init c = record {
  even = refl;
  raises = none_looked c.args.turns.now c.args.hart c.args.row.now c.args.steps.now c.args.numbers.now c.args.number;
  taken = λ place keys key there lead own h. h;
}

pub turns-preserved : goal.turns-preserved
turns-preserved c =
    let inside = c.turns-test.true in
    let row_wide = c.requires.row in
    let steps_wide = c.requires.steps in
    let to = get_or c.args.row.now c.turns.i 0 in
    let to_is : slice_get c.args.row.now c.turns.i ≡ Some to = slice_get-get_or c.args.row.now c.turns.i 0 inside in
    let even = c.turns.invariant.even in
    let below = c.requires.below c.turns.i to to_is in
    let t = get_there c.turns.numbers to (omega (arith, even, below)) in
    let there = c.requires.there in
    record {
      even = c.raise_to.ensures.even ∙ c.turns.invariant.even;
      raises = turn_looked c.args.turns.now c.args.hart c.args.row.now c.args.steps.now c.args.number c.turns.i to
          (get_or c.args.steps.now c.turns.i 0) t.0 c.raised_by-most.result _
          (slice_get-get_or c.args.turns.now c.turns.i _ (omega (arith, inside, row_wide))) to_is
          (slice_get-get_or c.args.steps.now c.turns.i 0 (omega (arith, inside, row_wide, steps_wide)))
          c.args.numbers.now c.turns.numbers c.raise_to.new.numbers c.turns.is_more c.raise_to.result c.if-raise_to.is_more t.1
          (c.raised_by-most.ensures.number t.0 t.1) c.raised_by-most.ensures.fits (omega (arith, even, there)) c.turns.invariant.raises
          c.raise_to.ensures.raises (elim c.if-raise_to.branch [
            | then-raise_to w ↦ inl (w.if-raise_to.true, w.is_more-is)
            | else-raise_to w ↦ inr (w.if-raise_to.false, w.is_more-is)
          ]);
      taken = λ place keys key at lead from h. turn_taken c.args.turns.now c.args.hart c.args.row.now c.args.steps.now c.args.number
          c.turns.i to (get_or c.args.steps.now c.turns.i 0) t.0 c.raised_by-most.result _
          (slice_get-get_or c.args.turns.now c.turns.i _ (omega (arith, inside, row_wide))) to_is
          (slice_get-get_or c.args.steps.now c.turns.i 0 (omega (arith, inside, row_wide, steps_wide)))
          place keys key c.turns.numbers c.raise_to.new.numbers c.raise_to.result at lead from t.1 (c.raised_by-most.ensures.number t.0 t.1)
          (omega (arith, even, there)) c.raise_to.ensures.raises (c.turns.invariant.taken place keys key at lead from h);
    }
