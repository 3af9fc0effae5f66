use Rattle.std.proofs.Common.{sym, subst, ◌∙◌}
use Rattle.explore_search.specs.Marked.{AllBelow}
use Rattle.explore_search.proofs.MarkLemmas.{pass_smaller, shut_after}
use Rattle.explore_search.proofs.marking.mark_all.Goals as goal

pub mark_more-is_more-requires-clause-below : goal.mark_more-is_more-requires-clause-below
mark_more-is_more-requires-clause-below g c =
    subst (λ n. AllBelow n c.args.rows.now) (sym c.passes.invariant.even) c.requires.below

pub passes-preserved : goal.passes-preserved
passes-preserved g c = record {
  even = c.mark_more-is_more.ensures.even ∙ c.passes.invariant.even;
  shut = shut_after c.args.rows.now c.passes.marks c.mark_more-is_more.new.marks c.mark_more-is_more.result
      c.mark_more-is_more.ensures.marks;
  ways = λ choices ended place keys have h. c.mark_more-is_more.ensures.ways choices ended place keys have
      (c.passes.invariant.ways choices ended place keys have h);
  marks_stay = λ k e. c.mark_more-is_more.ensures.marks_stay k (c.passes.invariant.marks_stay k e);
}

pub passes-smaller : goal.passes-smaller
passes-smaller g c =
    pass_smaller c.args.rows.now c.passes.marks c.mark_more-is_more.new.marks c.passes.is_more c.mark_more-is_more.result
    c.passes-test.true c.mark_more-is_more.ensures.marks
