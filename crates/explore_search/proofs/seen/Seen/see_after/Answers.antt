use Rattle.std.proofs.Common.{◌∙◌, arith, sym}
use Rattle.std.proofs.lemmas.Option.{slice_get_within}
use Rattle.explore_search.proofs.EdgeLemmas.{at_added}
use Rattle.explore_search.proofs.NearLemmas.{soon_new, soon_known, rising_after}
use Rattle.explore_search.proofs.SearchLemmas.{added_as, leads_by, see_new, see_known, see_it}
use Rattle.explore_search.proofs.seen.Seen.see_after.Goals as goal

pub returns-in_ok-push-clause-reached : goal.returns-in_ok-push-clause-reached
returns-in_ok-push-clause-reached g c =
    see_new (g.S.Space.is_key c.args.space.now) (g.S.Space.is_key c.key_after.new.self) (g.S.Space.place c.args.space.now)
    (g.S.Space.place c.key_after.new.self) c.in_ok-key_after.ensures.kept (g.S.Space.first c.args.space.now) c.args.choices.now
    c.args.self.now.keys c.add.new.self c.args.self.now.links.items c.push.new.self.items c.in_ok-key_after.ensures.differ
    c.requires.reached c.key_after.new.next.items c.args.key.now c.args.link c.in_ok-number.number c.in_ok-key_after.ensures.key.0 c.requires.there c.requires.meant
    (leads_by c.args.choices.now c.args.link.turn _ _ _ c.in_ok-key_after.ensures.key.1)
    (added_as _ _ _ _ _ c.deref.ensures.value c.in_ok-number.ensures.number) (c.if-number-len.true ∙ c.len.ensures ∙ c.args.self.now.links.ok.0) c.in_ok-push.ensures.items

pub returns-in_ok-push-clause-seen : goal.returns-in_ok-push-clause-seen
returns-in_ok-push-clause-seen g c d e =
    see_it (g.S.Space.is_key c.args.space.now) (g.S.Space.is_key c.key_after.new.self) (g.S.Space.place c.args.space.now)
    (g.S.Space.place c.key_after.new.self) c.in_ok-key_after.ensures.kept c.args.self.now.keys c.add.new.self c.key_after.new.next.items
    c.in_ok-number.number _ (added_as _ _ _ _ _ c.deref.ensures.value c.in_ok-number.ensures.number)
    (leads_by c.args.choices.now c.args.link.turn _ _ _ c.in_ok-key_after.ensures.key.1 d e)

pub returns-else-number-len-clause-reached : goal.returns-else-number-len-clause-reached
returns-else-number-len-clause-reached g c =
    see_known (g.S.Space.is_key c.args.space.now) (g.S.Space.is_key c.key_after.new.self) (g.S.Space.place c.args.space.now)
    (g.S.Space.place c.key_after.new.self) c.in_ok-key_after.ensures.kept (g.S.Space.first c.args.space.now) c.args.choices.now
    c.args.self.now.keys c.add.new.self c.args.self.now.links.items c.in_ok-key_after.ensures.differ c.requires.reached
    c.key_after.new.next.items c.in_ok-number.number (added_as _ _ _ _ _ c.deref.ensures.value c.in_ok-number.ensures.number) (λ e. c.if-number-len.false (e ∙ sym (c.len.ensures ∙ c.args.self.now.links.ok.0)))

pub returns-in_ok-push-clause-soon : goal.returns-in_ok-push-clause-soon
returns-in_ok-push-clause-soon g c d e =
    soon_new (g.S.Space.place c.key_after.new.self) c.args.self.now.keys c.add.new.self c.args.self.now.links.items c.push.new.self.items
    c.key_after.new.next.items c.args.link c.in_ok-number.number _ c.requires.reached.even (added_as _ _ _ _ _ c.deref.ensures.value c.in_ok-number.ensures.number)
    (c.if-number-len.true ∙ c.len.ensures ∙ c.args.self.now.links.ok.0) c.in_ok-push.ensures.items
    (leads_by c.args.choices.now c.args.link.turn _ _ _ c.in_ok-key_after.ensures.key.1 d e)

pub returns-in_ok-push-clause-rising : goal.returns-in_ok-push-clause-rising
returns-in_ok-push-clause-rising g c =
    rising_after c.args.self.now.links.items c.push.new.self.items c.args.link c.requires.rising
    (let w = slice_get_within c.args.self.now.keys c.args.link.from c.args.key.now c.requires.there in let even = c.requires.reached.even in
    omega (arith, w, even)) c.requires.step c.in_ok-push.ensures.items

pub returns-else-number-len-clause-soon : goal.returns-else-number-len-clause-soon
returns-else-number-len-clause-soon g c d e =
    soon_known (g.S.Space.place c.key_after.new.self) c.args.self.now.keys c.add.new.self c.args.self.now.links.items c.key_after.new.next.items
    c.args.link c.in_ok-number.number _ c.requires.reached.even (added_as _ _ _ _ _ c.deref.ensures.value c.in_ok-number.ensures.number)
    (λ e. c.if-number-len.false (e ∙ sym (c.len.ensures ∙ c.args.self.now.links.ok.0))) c.requires.rising
    (slice_get_within c.args.self.now.keys c.args.link.from c.args.key.now c.requires.there) c.requires.step
    (leads_by c.args.choices.now c.args.link.turn _ _ _ c.in_ok-key_after.ensures.key.1 d e)

pub returns-in_ok-push-clause-number : goal.returns-in_ok-push-clause-number
returns-in_ok-push-clause-number g c d e =
    at_added (g.S.Space.place c.key_after.new.self) c.args.self.now.keys c.add.new.self c.key_after.new.next.items
    c.in_ok-number.number _ (added_as _ _ _ _ _ c.deref.ensures.value c.in_ok-number.ensures.number)
    (leads_by c.args.choices.now c.args.link.turn _ _ _ c.in_ok-key_after.ensures.key.1 d e)

pub returns-else-number-len-clause-number : goal.returns-else-number-len-clause-number
returns-else-number-len-clause-number g c d e =
    at_added (g.S.Space.place c.key_after.new.self) c.args.self.now.keys c.add.new.self c.key_after.new.next.items
    c.in_ok-number.number _ (added_as _ _ _ _ _ c.deref.ensures.value c.in_ok-number.ensures.number)
    (leads_by c.args.choices.now c.args.link.turn _ _ _ c.in_ok-key_after.ensures.key.1 d e)
