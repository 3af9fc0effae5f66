use Rattle.std.proofs.Common.{◌∙◌, ◌+◌, ℕ, arith, length, subst, sym, ap, List}
use Rattle.std.specs.List.{slice_get}
use Rattle.std.proofs.lemmas.Option.{slice_get_within}
use Rattle.explore_laws.specs.Places.{place_after}
use Rattle.explore_table.proofs.ListLemmas.{get_there}
use Rattle.explore_search.specs.Edges.{AreEdges}
use Rattle.explore_search.specs.Searched.{AreReached, AreDone, IsSoon}
use Rattle.explore_search.specs.declared.seen.Link.{Link}
use Rattle.explore_search.proofs.NearLemmas.{soons_stay, soon_step, soons_more, rising_next}
use Rattle.explore_search.proofs.SearchLemmas.{get_later, old_at, seen_step, done_later, done_more, length_pushed}
use Rattle.explore_search.proofs.EdgeLemmas.{edges_stay, lead_more}
use Rattle.explore_search.proofs.searching.see_next.Goals as goal

pub choices-preserved : goal.choices-preserved
choices-preserved g c =
    let are = c.choices.invariant.reached.are in
    let is = are c.args.from c.args.key.now c.choices.invariant.there in
    record {
      reached = subst (λ first. AreReached (g.S.Space.is_key c.see_after.new.space) (g.S.Space.place c.see_after.new.space) first c.args.choices.now
          c.see_after.new.self.keys c.see_after.new.self.links.items) (sym c.in_ok-to.ensures.first) c.in_ok-to.ensures.reached;
      done = done_later (g.S.Space.is_key c.choices.space) (g.S.Space.is_key c.see_after.new.space) (g.S.Space.place c.choices.space)
          (g.S.Space.place c.see_after.new.space) c.in_ok-to.ensures.kept (g.S.Space.bad c.choices.space) (g.S.Space.bad c.see_after.new.space)
          c.args.choices.now c.choices.seen.keys c.see_after.new.self.keys c.args.from c.in_ok-to.ensures.begins
          (let w = slice_get_within c.choices.seen.keys c.args.from c.args.key.now c.choices.invariant.there in omega (arith, w))
          are c.in_ok-to.ensures.bad c.choices.invariant.done;
      there = get_later c.choices.seen.keys c.see_after.new.self.keys c.args.from c.args.key.now c.in_ok-to.ensures.begins
          c.choices.invariant.there;
      same = (c.in_ok-to.ensures.kept c.args.key.now is).1 ∙ c.choices.invariant.same;
      seen = seen_step (g.S.Space.is_key c.choices.space) (g.S.Space.is_key c.see_after.new.space) (g.S.Space.place c.choices.space)
          (g.S.Space.place c.see_after.new.space) c.in_ok-to.ensures.kept c.args.choices.now c.choices.seen.keys
          c.see_after.new.self.keys c.in_ok-to.ensures.begins are c.args.key.now is c.choices.turn c.choices.invariant.seen
          c.in_ok-to.ensures.seen;
      rising = c.in_ok-to.ensures.rising;
      soon = soons_stay (g.S.Space.is_key c.choices.space) (g.S.Space.is_key c.see_after.new.space) (g.S.Space.place c.choices.space)
          (g.S.Space.place c.see_after.new.space) c.in_ok-to.ensures.kept c.args.choices.now c.choices.seen.keys
          c.see_after.new.self.keys c.choices.seen.links.items c.see_after.new.self.links.items c.args.from
          (let w = slice_get_within c.choices.seen.keys c.args.from c.args.key.now c.choices.invariant.there in omega (arith, w))
          c.choices.invariant.reached.even are c.in_ok-to.ensures.begins c.in_ok-to.ensures.links_begin c.choices.invariant.soon;
      step = λ a e. c.choices.invariant.step a
          (old_at c.choices.seen.links.items c.in_ok-to.ensures.links_begin.0 (length c.choices.seen.links.items) c.args.from a
          (omega arith)
          (let w = slice_get_within c.choices.seen.keys c.args.from c.args.key.now c.choices.invariant.there in
          let even = c.choices.invariant.reached.even in omega (arith, w, even))
          (ap (λ (links : List Link). slice_get links c.args.from) (sym c.in_ok-to.ensures.links_begin.1) ∙ e));
      seen_soon = soon_step (g.S.Space.is_key c.choices.space) (g.S.Space.is_key c.see_after.new.space) (g.S.Space.place c.choices.space)
          (g.S.Space.place c.see_after.new.space) c.in_ok-to.ensures.kept c.args.choices.now c.choices.seen.keys
          c.see_after.new.self.keys c.choices.seen.links.items c.see_after.new.self.links.items _ c.in_ok-to.ensures.begins
          c.in_ok-to.ensures.links_begin are c.args.key.now is c.choices.turn c.choices.invariant.seen_soon
          c.in_ok-to.ensures.soon;
      first = c.in_ok-to.ensures.first ∙ c.choices.invariant.first;
      bad = c.in_ok-to.ensures.bad ∙ c.choices.invariant.bad;
      edges = subst (AreEdges (g.S.Space.place c.see_after.new.space) c.args.choices.now c.see_after.new.self.keys)
          (sym c.in_ok-to.ensures.rows)
          (edges_stay (g.S.Space.is_key c.choices.space) (g.S.Space.is_key c.see_after.new.space) (g.S.Space.place c.choices.space)
          (g.S.Space.place c.see_after.new.space) c.in_ok-to.ensures.kept c.args.choices.now c.choices.seen.keys
          c.see_after.new.self.keys c.in_ok-to.ensures.begins are c.choices.seen.rows c.args.from
          (let few = c.requires.few in let same = ap (λ (rows : List (List ℕ)). length rows) c.choices.invariant.rows in
          omega (arith, few, same))
          (let w = slice_get_within c.choices.seen.keys c.args.from c.args.key.now c.choices.invariant.there in omega (arith, w))
          c.choices.invariant.edges);
      rows = c.in_ok-to.ensures.rows ∙ c.choices.invariant.rows;
      count = length_pushed c.choices.row.items c.push.new.self.items _ c.in_ok-push.ensures.items ∙ ap (λ n. n + 1) c.choices.invariant.count;
      lead = lead_more (g.S.Space.is_key c.choices.space) (g.S.Space.is_key c.see_after.new.space) (g.S.Space.place c.choices.space)
          (g.S.Space.place c.see_after.new.space) c.in_ok-to.ensures.kept c.args.choices.now c.choices.seen.keys
          c.see_after.new.self.keys c.in_ok-to.ensures.begins are c.args.key.now c.choices.row.items c.push.new.self.items c.in_ok-to.to
          c.choices.turn is c.choices.invariant.count c.choices.invariant.lead
          c.in_ok-to.ensures.number c.in_ok-push.ensures.items;
    }

pub returns-clause-done : goal.returns-clause-done
returns-clause-done g c =
    let end = c.choices-test.false in
    done_more (g.S.Space.place c.choices.space) (g.S.Space.bad c.args.space.now) c.args.choices.now c.choices.seen.keys c.args.from c.args.key.now
    c.choices.invariant.there (ap (g.S.Space.bad c.args.space.now) c.choices.invariant.same ∙ c.requires.good)
    (λ k d h e. c.choices.invariant.seen k d (omega (arith, h, end)) e)
    (subst (λ bad. AreDone (g.S.Space.place c.choices.space) bad c.args.choices.now c.choices.seen.keys c.args.from) c.choices.invariant.bad
    c.choices.invariant.done)

pub returns-clause-rising : goal.returns-clause-rising
returns-clause-rising g c =
    let from = get_there c.choices.seen.links.items c.args.from
    (let w = slice_get_within c.choices.seen.keys c.args.from c.args.key.now c.choices.invariant.there in
    let even = c.choices.invariant.reached.even in omega (arith, w, even)) in
    rising_next c.choices.seen.links.items c.args.from from.0 from.1 c.choices.invariant.rising

pub returns-clause-soon : goal.returns-clause-soon
returns-clause-soon g c =
    let end = c.choices-test.false in
    let from = get_there c.choices.seen.links.items c.args.from
    (let w = slice_get_within c.choices.seen.keys c.args.from c.args.key.now c.choices.invariant.there in
    let even = c.choices.invariant.reached.even in omega (arith, w, even)) in
    soons_more (g.S.Space.place c.choices.space) c.args.choices.now c.choices.seen.keys c.choices.seen.links.items c.args.from c.args.key.now
    from.0 c.choices.invariant.there from.1
    (λ k d h e. subst (λ most. IsSoon (g.S.Space.place c.choices.space) c.choices.seen.keys c.choices.seen.links.items most
    (place_after (g.S.Space.place c.choices.space c.args.key.now) d)) (c.choices.invariant.step from.0 from.1)
    (c.choices.invariant.seen_soon k d (omega (arith, h, end)) e)) c.choices.invariant.soon
