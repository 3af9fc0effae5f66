use Rattle.std.proofs.Common.{◌∙◌, ◌+◌, arith, subst, sym, ap}
use Rattle.std.proofs.lemmas.Option.{slice_get_within}
use Rattle.explore_laws.specs.Places.{place_reached}
use Rattle.explore_search.specs.Rows.{CountsRows, KeepsRow}
use Rattle.explore_search.specs.Searched.{AreReached, AreDone}
use Rattle.explore_search.proofs.SearchLemmas.{bad_by, closed_is_safe, closed_is_all, closed_is_counted, more_are_counted}
use Rattle.explore_table.proofs.ListLemmas.{get_there}
use Rattle.explore_search.proofs.NearLemmas.{closed_is_seen, none_shorter}
use Rattle.explore_search.proofs.EdgeLemmas.{closed_leads, counts_few, counts_kept, edges_kept}
use Rattle.explore_search.proofs.searching.search.Goals as goal

pub returns-then-from-count-clause-answers : goal.returns-then-from-count-clause-answers
returns-then-from-count-clause-answers g c =
    let all = c.if-from-count.true in
    let count = c.len-count.ensures in
    closed_is_safe c.places.invariant.reached c.places.invariant.done c.places.invariant.first c.places.invariant.bad (omega (arith, all, count))

pub returns-then-from-count-clause-counts : goal.returns-then-from-count-clause-counts
returns-then-from-count-clause-counts g c =
    let all = c.if-from-count.true in
    let count = c.len-count.ensures in
    closed_is_counted c.places.invariant.reached c.places.invariant.done c.places.invariant.first (omega (arith, all, count))

pub returns-then-from-count-clause-reaches : goal.returns-then-from-count-clause-reaches
returns-then-from-count-clause-reaches g c =
    let all = c.if-from-count.true in
    let count = c.len-count.ensures in
    closed_is_all c.places.invariant.reached c.places.invariant.done c.places.invariant.first (omega (arith, all, count))

pub returns-then-is_bad-clause-answers : goal.returns-then-is_bad-clause-answers
returns-then-is_bad-clause-answers g c =
    let key = c.read_key.new.key.items in
    let bad_here = bad_by (g.S.Space.bad c.places.space) (g.S.Space.place c.places.space) c.deref.result.now key c.in_ok-is_bad.is_bad
    c.deref.ensures.value c.in_ok-is_bad.ensures c.if-is_bad.true in
    record {
      meant = c.in_ok-path_to.ensures.meant;
      shortest = λ other all less.
          let more = c.if-from-count.false in
          let count = c.len-count.ensures in
          let even = c.places.invariant.reached.even in
          let last = get_there c.places.seen.links.items c.places.from (omega (arith, more, count, even)) in
          let steps = c.in_ok-path_to.ensures.steps last.0 last.1 in
          none_shorter (g.S.Space.place c.places.space) c.args.choices.now c.places.seen.keys c.places.seen.links.items c.places.from c.places.from last.0
          c.places.invariant.rising c.places.invariant.soon last.1 (g.S.Space.is_key c.places.space) (g.S.Space.first c.args.space.now)
          (g.S.Space.bad c.args.space.now)
          (subst (λ first. AreReached (g.S.Space.is_key c.places.space) (g.S.Space.place c.places.space) first c.args.choices.now
          c.places.seen.keys c.places.seen.links.items) c.places.invariant.first c.places.invariant.reached)
          (subst (λ bad. AreDone (g.S.Space.place c.places.space) bad c.args.choices.now c.places.seen.keys c.places.from)
          c.places.invariant.bad c.places.invariant.done) other all (omega (arith, less, steps));
      ends = ap (λ f. g.S.Space.bad c.args.space.now (place_reached f c.in_ok-path_to.field-0.items)) (sym c.places.invariant.first)
          ∙ ap (g.S.Space.bad c.args.space.now) (c.in_ok-path_to.ensures.leads key c.in_ok-read_key.ensures)
          ∙ ap (λ b. b (g.S.Space.place c.places.space key)) (sym c.places.invariant.bad) ∙ bad_here;
    }

pub returns-then-found-most-clause-answers : goal.returns-then-found-most-clause-answers
returns-then-found-most-clause-answers g c =
    let few = c.if-found-most.true in
    let count = c.len-found.ensures in
    let over = c.places-test.false in
    closed_is_safe c.places.invariant.reached c.places.invariant.done c.places.invariant.first c.places.invariant.bad (omega (arith, few, count, over))

pub returns-then-found-most-clause-counts : goal.returns-then-found-most-clause-counts
returns-then-found-most-clause-counts g c =
    let few = c.if-found-most.true in
    let count = c.len-found.ensures in
    let over = c.places-test.false in
    closed_is_counted c.places.invariant.reached c.places.invariant.done c.places.invariant.first (omega (arith, few, count, over))

pub returns-then-found-most-clause-reaches : goal.returns-then-found-most-clause-reaches
returns-then-found-most-clause-reaches g c =
    let few = c.if-found-most.true in
    let count = c.len-found.ensures in
    let over = c.places-test.false in
    closed_is_all c.places.invariant.reached c.places.invariant.done c.places.invariant.first (omega (arith, few, count, over))

pub returns-clause-counts : goal.returns-clause-counts
returns-clause-counts g c =
    let more = c.if-found-most.false in
    let count = c.len-found.ensures in
    more_are_counted c.places.invariant.reached c.places.invariant.first (omega (arith, more, count))

pub returns-then-from-count-clause-sees : goal.returns-then-from-count-clause-sees
returns-then-from-count-clause-sees g c =
    let all = c.if-from-count.true in
    let count = c.len-count.ensures in
    closed_is_seen c.places.invariant.reached c.places.invariant.done c.places.invariant.rising c.places.invariant.soon c.places.invariant.first
    (omega (arith, all, count))

pub returns-then-found-most-clause-sees : goal.returns-then-found-most-clause-sees
returns-then-found-most-clause-sees g c =
    let few = c.if-found-most.true in
    let count = c.len-found.ensures in
    let over = c.places-test.false in
    closed_is_seen c.places.invariant.reached c.places.invariant.done c.places.invariant.rising c.places.invariant.soon c.places.invariant.first
    (omega (arith, few, count, over))

pub returns-then-from-count-clause-leads : goal.returns-then-from-count-clause-leads
returns-then-from-count-clause-leads g c =
    let all = c.if-from-count.true in
    let count = c.len-count.ensures in
    closed_leads c.args.edges (g.S.Space.place c.places.space) c.args.choices.now c.places.seen c.places.from c.places.invariant.count
    c.places.invariant.within (omega (arith, all, count)) c.places.invariant.edges

pub returns-then-found-most-clause-leads : goal.returns-then-found-most-clause-leads
returns-then-found-most-clause-leads g c =
    let few = c.if-found-most.true in
    let count = c.len-found.ensures in
    let over = c.places-test.false in
    closed_leads c.args.edges (g.S.Space.place c.places.space) c.args.choices.now c.places.seen c.places.from c.places.invariant.count
    c.places.invariant.within (omega (arith, few, count, over)) c.places.invariant.edges

pub see_next-requires-clause-few : goal.see_next-requires-clause-few
see_next-requires-clause-few g c = counts_few c.args.edges c.places.from c.places.seen.rows c.places.invariant.count

pub places-preserved : goal.places-preserved
places-preserved g c =
    let place = g.S.Space.place c.see_next.new.space in
    let keys = c.see_next.new.seen.keys in
    let choices = c.args.choices.now in
    let rows = c.see_next.new.seen.rows in
    let count = subst (CountsRows c.args.edges c.places.from) (sym c.in_ok-see_next.ensures.rows) c.places.invariant.count in
    let kept = subst (λ r. KeepsRow c.args.edges r rows c.keep_row.new.rows) c.deref-in-places-2.ensures.value c.in_ok-keep_row.ensures in
    record {
      reached = subst (λ first. AreReached (g.S.Space.is_key c.see_next.new.space) place first choices keys
          c.see_next.new.seen.links.items) (sym c.in_ok-see_next.ensures.first) c.in_ok-see_next.ensures.reached;
      done = subst (λ bad. AreDone place bad choices keys (c.places.from + 1)) (sym c.in_ok-see_next.ensures.bad)
          c.in_ok-see_next.ensures.done;
      rising = c.in_ok-see_next.ensures.rising;
      soon = c.in_ok-see_next.ensures.soon;
      first = c.in_ok-see_next.ensures.first ∙ c.places.invariant.first;
      bad = c.in_ok-see_next.ensures.bad ∙ c.places.invariant.bad;
      within = (let w = slice_get_within keys c.places.from _ c.in_ok-see_next.ensures.stays in omega (arith, w));
      edges = edges_kept place choices keys rows c.keep_row.new.rows c.places.from c.deref-in-places.result.now c.see_next.new.row.items
          c.args.edges count c.in_ok-see_next.ensures.stays c.in_ok-see_next.ensures.row c.in_ok-see_next.ensures.edges kept;
      count = counts_kept c.args.edges c.places.from rows c.keep_row.new.rows c.see_next.new.row.items count kept;
    }
