use Rattle.std.proofs.Common.{List, [], ◌∷◌, ◌++◌, refl, ap, ◌∙◌}
use Rattle.explore_search.specs.declared.seen.Link.{Link}
use Rattle.explore_search.proofs.NearLemmas.{rising_first}
use Rattle.explore_search.proofs.SearchLemmas.{added_as, first_added, reached_first}
use Rattle.explore_search.proofs.searching.see_first.Goals as goal

first_link : Link
first_link = record { from = 0; steps = 0; turn = 0 }

pub returns-clause-rising : goal.returns-clause-rising
unfolding first_link
returns-clause-rising g c =
    rising_first c.push.new.self.items first_link
    (c.in_ok-push.ensures.items ∙ ap (λ (links : List Link). links ++ first_link ∷ []) c.new-links.ensures.items) refl

pub returns-clause-reached : goal.returns-clause-reached
unfolding first_link
returns-clause-reached g c =
    reached_first (g.S.Space.is_key c.first_key.new.self) (g.S.Space.place c.first_key.new.self) (g.S.Space.first c.args.space.now)
    c.args.choices.now c.in_ok-first.first.items c.add.new.self c.push.new.self.items first_link
    (first_added _ _ _ _ c.in_ok-keys.ensures (added_as _ _ _ _ _ c.deref.ensures.value c.in_ok-add.ensures.number))
    (c.in_ok-push.ensures.items ∙ ap (λ (links : List Link). links ++ first_link ∷ []) c.new-links.ensures.items)
    c.in_ok-first.ensures.key.0 c.in_ok-first.ensures.key.1 c.in_ok-first.ensures.differ
