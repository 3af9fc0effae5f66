use Rattle.std.proofs.Common.{◌∙◌, refl, ap, arith, length}
use Rattle.std.specs.List.{Contains}
use Rattle.std.proofs.lemmas.List.Elements.{All-nil, All-push}
use Rattle.std.proofs.lemmas.List.{length-reverse}
use Rattle.std.proofs.lemmas.Option.{slice_get_read}
use Rattle.explore_search.proofs.NearLemmas.{counts_first, counts_more, counts_all}
use Rattle.explore_search.proofs.SearchLemmas.{leads_first, back_less, back_turn, back_meant, back_leads, length_pushed, All-reverse}
use Rattle.explore_search.proofs.seen.Seen.path_to.Goals as goal

pub back-init : goal.back-init
back-init g c = record {
  within = c.requires.there;
  counts = counts_first c.args.self.now.links.items c.args.number (length c.new-path.result.items) (ap length c.new-path.ensures.items);
  meant = rw c.new-path.ensures.items (All-nil (Contains c.args.choices.now));
  leads = leads_first (g.S.Space.place c.args.space.now) c.args.self.now.keys c.args.number c.new-path.result.items c.new-path.ensures.items;
}

pub back-smaller : goal.back-smaller
back-smaller g c =
    back_less (g.S.Space.is_key c.args.space.now) (g.S.Space.place c.args.space.now) (g.S.Space.first c.args.space.now) c.args.choices.now
    c.args.self.now.keys c.args.self.now.links.items c.requires.reached c.back.at c.back-test.true c.back.invariant.within
    c.index-link.result.now c.index-link.ensures

pub bounds-choices-link : goal.bounds-choices-link
bounds-choices-link g c =
    back_turn (g.S.Space.is_key c.args.space.now) (g.S.Space.place c.args.space.now) (g.S.Space.first c.args.space.now) c.args.choices.now
    c.args.self.now.keys c.args.self.now.links.items c.requires.reached c.back.at c.back-test.true c.back.invariant.within
    c.index-link.result.now c.index-link.ensures

pub back-preserved : goal.back-preserved
back-preserved g c =
    let less = back_less (g.S.Space.is_key c.args.space.now) (g.S.Space.place c.args.space.now) (g.S.Space.first c.args.space.now) c.args.choices.now
    c.args.self.now.keys c.args.self.now.links.items c.requires.reached c.back.at c.back-test.true c.back.invariant.within
    c.index-link.result.now c.index-link.ensures in
    let w = c.back.invariant.within in
    record {
      within = omega (arith, less, w);
      counts = counts_more c.args.self.now.links.items c.requires.rising.0 c.back.at c.args.number (length c.back.path.items)
          (length c.push.new.self.items) c.index-link.result.now c.requires.rising.1 c.back-test.true
          (let even = c.requires.reached.even in omega (arith, w, even))
          (slice_get_read c.args.self.now.links.items (length c.args.self.now.links.items) c.back.at c.index-link.result.now refl
          (let even = c.requires.reached.even in omega (arith, w, even)) c.index-link.ensures)
          (length_pushed c.back.path.items c.push.new.self.items _ c.in_ok-push.ensures.items) c.back.invariant.counts;
      meant = rw c.in_ok-push.ensures.items (All-push (Contains c.args.choices.now) c.back.path.items _ c.back.invariant.meant
          (back_meant (g.S.Space.is_key c.args.space.now) (g.S.Space.place c.args.space.now) (g.S.Space.first c.args.space.now) c.args.choices.now
          c.args.self.now.keys c.args.self.now.links.items c.requires.reached c.back.at c.back-test.true c.back.invariant.within
          c.index-link.result.now c.index-link.ensures _));
      leads = back_leads (g.S.Space.is_key c.args.space.now) (g.S.Space.place c.args.space.now) (g.S.Space.first c.args.space.now) c.args.choices.now
          c.args.self.now.keys c.args.self.now.links.items c.requires.reached c.back.at c.back-test.true c.back.invariant.within
          c.index-link.result.now c.index-link.ensures c.args.number c.back.path.items c.push.new.self.items _ c.back.invariant.leads
          c.in_ok-push.ensures.items;
    }

pub returns-clause-meant : goal.returns-clause-meant
returns-clause-meant g c = rw c.reverse.ensures.items (All-reverse (Contains c.args.choices.now) c.back.path.items c.back.invariant.meant)

pub returns-clause-steps : goal.returns-clause-steps
returns-clause-steps g c a e =
    ap length c.reverse.ensures.items ∙ length-reverse c.back.path.items
    ∙ counts_all c.args.self.now.links.items c.requires.rising.0 c.back.at c.args.number (length c.back.path.items) c.requires.rising.1
    c.back-test.false (let w = c.requires.there in let even = c.requires.reached.even in omega (arith, w, even)) c.back.invariant.counts a e
