use Rattle.std.proofs.Common.{◌≡◌, ◌+◌, ◌-◌, ◌≤◌, ◌^◌, Some, arith, get_or, subst, sym}
use Rattle.std.specs.List.{slice_get}
use Rattle.std.proofs.lemmas.Option.{slice_get-get_or}
use Rattle.explore_bounds.proofs.BoundLemmas.{LeadsAlong, along_more, along_none, along_round}
use Rattle.explore_bounds.proofs.NumberLemmas.{min_low}
use borrow.Author.Tests.{ltb-true}
use Rattle.explore_bounds.proofs.rounds.round_by.Goals as goal

pub turns-init : goal.turns-init
turns-init g c = record {
  there = c.requires.there;
  along = along_none c.args.turns.now c.args.hart c.args.rows.now c.args.steps.now c.args.first;
}

pub turns-preserved : goal.turns-preserved
turns-preserved g c =
    let row_in = c.if-i-row.false in
    let i = get_or c.args.via.now c.turns.at 0 in
    let next = get_or c.row-row.result.now i 0 in
    let next_is : slice_get c.row-row.result.now i ≡ Some next = slice_get-get_or c.row-row.result.now i 0 row_in in
    let wide = c.requires.rows c.turns.at c.row-row.result.now c.row-row.ensures in
    let own_wide = c.requires.steps c.turns.at c.row-own.result.now c.row-own.ensures in
    record {
      there = c.requires.below c.turns.at c.row-row.result.now c.row-row.ensures i next next_is;
      along = along_more c.args.turns.now c.args.hart c.args.rows.now c.args.steps.now c.args.first c.turns.at c.turns.total i
          (get_or c.row-own.result.now i 0) c.saturating_add-total.result _ c.row-row.result.now c.row-own.result.now next c.row-row.ensures
          c.row-own.ensures (slice_get-get_or c.args.turns.now i _ (omega (arith, row_in, wide))) next_is
          (slice_get-get_or c.row-own.result.now i 0 (omega (arith, row_in, wide, own_wide)))
          (subst (λ x. c.saturating_add-total.result ≤ c.turns.total + x) c.own_in-taken.ensures
          (subst (λ r. r ≤ c.turns.total + c.own_in-taken.result) (sym c.saturating_add-total.ensures)
          (min_low (c.turns.total + c.own_in-taken.result) (2 ^ 64 - 1)))) c.turns.invariant.along;
    }

pub returns-then-at-first : goal.returns-then-at-first
returns-then-at-first g c some =
    let row_in = c.if-i-row.false in
    let i = get_or c.args.via.now c.turns.at 0 in
    let next = get_or c.row-row.result.now i 0 in
    let next_is : slice_get c.row-row.result.now i ≡ Some next = slice_get-get_or c.row-row.result.now i 0 row_in in
    let wide = c.requires.rows c.turns.at c.row-row.result.now c.row-row.ensures in
    let own_wide = c.requires.steps c.turns.at c.row-own.result.now c.row-own.ensures in
    along_round c.args.turns.now c.args.hart c.args.rows.now c.args.steps.now c.args.first c.saturating_add-total.result c.requires.there
    (omega (arith, ltb-true 0 c.saturating_add-total.result some))
    (subst (λ k. LeadsAlong c.args.turns.now c.args.hart c.args.rows.now c.args.steps.now c.args.first k c.saturating_add-total.result)
    c.if-at-first.true
    (along_more c.args.turns.now c.args.hart c.args.rows.now c.args.steps.now c.args.first c.turns.at c.turns.total i
    (get_or c.row-own.result.now i 0) c.saturating_add-total.result _ c.row-row.result.now c.row-own.result.now next c.row-row.ensures
    c.row-own.ensures (slice_get-get_or c.args.turns.now i _ (omega (arith, row_in, wide))) next_is
    (slice_get-get_or c.row-own.result.now i 0 (omega (arith, row_in, wide, own_wide)))
    (subst (λ x. c.saturating_add-total.result ≤ c.turns.total + x) c.own_in-taken.ensures
    (subst (λ r. r ≤ c.turns.total + c.own_in-taken.result) (sym c.saturating_add-total.ensures)
    (min_low (c.turns.total + c.own_in-taken.result) (2 ^ 64 - 1)))) c.turns.invariant.along))
