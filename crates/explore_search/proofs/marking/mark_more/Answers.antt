use Rattle.std.proofs.Common.{◌+◌, ◌-◌, arith, length, refl, subst, sym, ◌∙◌, inl, inr}
use Rattle.explore_search.specs.Marked.{AreBelow}
use Rattle.explore_search.proofs.MarkLemmas.{one_stays, one_ways, pass_begins, pass_ends, pass_one}
use Rattle.explore_search.proofs.marking.mark_more.Goals.{then-mark_one, else-mark_one}
use Rattle.explore_search.proofs.marking.mark_more.Goals as goal

pub keys-init : goal.keys-init
keys-init g c = record {
  even = refl;
  more = pass_begins c.args.rows.now c.args.marks.now _ (let even = c.requires.even in omega (arith, even));
  ways = λ choices ended place keys have h. h;
  marks_stay = λ k e. e;
}

pub mark_one-requires-clause-below : goal.mark_one-requires-clause-below
mark_one-requires-clause-below g c =
    subst (λ n. AreBelow n c.row.result.now) (sym c.keys.invariant.even)
    (c.requires.below (length c.args.marks.now - 1 - c.keys.back) c.row.result.now c.row.ensures)

pub keys-preserved : goal.keys-preserved
keys-preserved g c =
    let rows = c.args.rows.now in
    let low = c.keys-test.true in
    let number = length c.args.marks.now - 1 - c.keys.back in
    let row = c.row.result.now in
    let there = c.row.ensures in
    let one = c.mark_one.ensures.marks in
    record {
      even = c.mark_one.ensures.even ∙ c.keys.invariant.even;
      more = pass_one rows c.args.marks.now c.keys.marks c.mark_one.new.marks (length c.args.marks.now - c.keys.back)
          (length c.args.marks.now - (c.keys.back + 1)) number row c.keys.is_more c.mark_one.result c.if-mark_one.is_more
          (omega (arith, low)) (omega arith) there c.keys.invariant.more one (elim c.if-mark_one.branch [
            | then-mark_one w ↦ inl (w.if-mark_one.true, w.is_more-is)
            | else-mark_one w ↦ inr (w.if-mark_one.false, w.is_more-is)
          ]);
      ways = λ choices ended place keys have h. one_ways place choices keys rows have ended c.keys.marks c.mark_one.new.marks number
          row c.mark_one.result there one (c.keys.invariant.ways choices ended place keys have h);
      marks_stay = λ k e. one_stays c.keys.marks c.mark_one.new.marks number row c.mark_one.result one k
          (c.keys.invariant.marks_stay k e);
    }

pub returns-clause-marks : goal.returns-clause-marks
returns-clause-marks g c =
    let end = c.keys-test.false in
    pass_ends c.args.rows.now c.args.marks.now c.keys.marks (length c.args.marks.now - c.keys.back) c.keys.is_more
    (omega (arith, end)) c.keys.invariant.more
